-- The streams of what is written.
use mathlib.Core.Path.{◌≡◌, refl, ap, ◌∙◌, sym}
use mathlib.Core.Bool.{Bool, true, false, ◌&&◌}
use mathlib.Core.List.{List, [], ◌∷◌, ◌++◌, append_assoc}
use Prim.Native.Nat.{ℕ}
use Rattle.token_list.specs.Byte.{QUOTE, COMMA, COLON, SEMICOLON, LESS, GREATER}
use Rattle.token_list.specs.Row.{Row}
use Rattle.token_list.specs.Rows.{ident, punct}
use Rattle.token_list.specs.Stream.{Trees, end, leaf, group, Streams, before, streams}
use Rattle.token_list.proofs.Texts.{and_parts}
use Rattle.reading.specs.Token.{CONST, STRUCT}
use Rattle.reading.specs.Declaration.{Parameter, lifetime, constant, type}
use Rattle.writing.specs.Generics.{bounds, parameter_rows, parted, angled_rows}
use Rattle.writing.specs.ReadBack.{run_of, behind_struct_lem}
use Rattle.writing.proofs.Joined.{joined, tokens, streams-rows}

-- ## What is written, before a stream

abbrev pub bounds_then : Trees → Trees → Trees
bounds_then end us = us
bounds_then (leaf r ts) us = leaf (punct COLON) (joined (leaf r ts) us)
bounds_then (group d ts vs) us = leaf (punct COLON) (joined (group d ts vs) us)

abbrev pub parameter_then : Parameter → Trees → Trees
parameter_then (lifetime n b) us = leaf (punct QUOTE) (leaf (ident n) (bounds_then b us))
parameter_then (constant n t) us = leaf (ident CONST) (leaf (ident n) (leaf (punct COLON) (joined t us)))
parameter_then (type n b d) us = leaf (ident n) (bounds_then b us)

abbrev pub parted_then : Bool → List Parameter → Trees → Trees
parted_then first [] us = us
parted_then true (p ∷ ps) us = parameter_then p (parted_then false ps us)
parted_then false (p ∷ ps) us = leaf (punct COMMA) (parameter_then p (parted_then false ps us))

abbrev pub angled_then : List Parameter → Trees → Trees
angled_then ps us = leaf (punct LESS) (parted_then true ps (leaf (punct GREATER) us))

-- ## It is the stream of the rows

-- streams with another first one
abbrev put : (Trees → Trees) → Streams → Streams
put f st = record { here = f st.here; outer = st.outer }

abbrev put_leaf : Row → Streams → Streams
put_leaf r st = put (leaf r) st

streams-bounds : (b : Trees) (rs : List Row) → tokens b ≡ true
    → streams (bounds b ++ rs) ≡ put (bounds_then b) (streams rs)
unfolding before
streams-bounds end rs e = refl
streams-bounds (leaf r us) rs e = ap (put_leaf (punct COLON)) (streams-rows (leaf r us) rs e)
streams-bounds (group d ts us) rs e = ap (put_leaf (punct COLON)) (streams-rows (group d ts us) rs e)

streams-parameter : (p : Parameter) (rs : List Row) → tokens (run_of p) ≡ true
    → streams (parameter_rows p ++ rs) ≡ put (parameter_then p) (streams rs)
unfolding before
streams-parameter (lifetime n b) rs e =
    ap (λ (st : Streams). put_leaf (punct QUOTE) (put_leaf (ident n) st)) (streams-bounds b rs e)
streams-parameter (constant n t) rs e =
    ap (λ (st : Streams). put_leaf (ident CONST) (put_leaf (ident n) (put_leaf (punct COLON) st))) (streams-rows t rs e)
streams-parameter (type n b d) rs e = ap (put_leaf (ident n)) (streams-bounds b rs e)

-- the runs of all parameters are tokens
abbrev pub all_tokens : List Parameter → Bool
all_tokens [] = true
all_tokens (p ∷ ps) = tokens (run_of p) && all_tokens ps

streams-parted : (first : Bool) (ps : List Parameter) (rs : List Row) → all_tokens ps ≡ true
    → streams (parted first ps ++ rs) ≡ put (parted_then first ps) (streams rs)
unfolding before
streams-parted first [] rs e = refl
streams-parted true (p ∷ ps) rs e =
    let q = and_parts (tokens (run_of p)) (all_tokens ps) e in
    ap streams (append_assoc (parameter_rows p) (parted false ps) rs)
    ∙ streams-parameter p (parted false ps ++ rs) q.0
    ∙ ap (put (parameter_then p)) (streams-parted false ps rs q.1)
streams-parted false (p ∷ ps) rs e =
    let q = and_parts (tokens (run_of p)) (all_tokens ps) e in
    ap (put_leaf (punct COMMA)) (ap streams (append_assoc (parameter_rows p) (parted false ps) rs)
    ∙ streams-parameter p (parted false ps ++ rs) q.0
    ∙ ap (put (parameter_then p)) (streams-parted false ps rs q.1))

pub streams_angled : (ps : List Parameter) (rs : List Row) → all_tokens ps ≡ true
    → streams (angled_rows ps ++ rs) ≡ put (angled_then ps) (streams rs)
unfolding before
streams_angled ps rs e =
    ap (put_leaf (punct LESS)) (ap streams (append_assoc (parted true ps) (punct GREATER ∷ []) rs)
    ∙ streams-parted true ps (punct GREATER ∷ rs) e)

-- put behind `struct` and a name, before `;`
pub behind_struct : (name : List ℕ) (ps : List Parameter) → all_tokens ps ≡ true
    → behind_struct_lem name (angled_rows ps)
    ≡ leaf (ident STRUCT) (leaf (ident name) (angled_then ps (leaf (punct SEMICOLON) end)))
unfolding before
behind_struct name ps e =
    ap (λ (st : Streams). leaf (ident STRUCT) (leaf (ident name) st.here))
    (streams_angled ps (punct SEMICOLON ∷ []) e)

-- ## Parameters one after the other

-- whether the next parameter is still the first
abbrev pub still_first : Bool → List Parameter → Bool
still_first first [] = first
still_first first (p ∷ ps) = false

no_longer : (ps : List Parameter) → still_first false ps ≡ false
no_longer [] = refl
no_longer (p ∷ ps) = refl

behind : (p : Parameter) (ps qs : List Parameter)
    → parted false (ps ++ qs) ≡ parted false ps ++ parted (still_first false ps) qs
    → parameter_rows p ++ parted false (ps ++ qs) ≡ (parameter_rows p ++ parted false ps) ++ parted false qs
behind p ps qs e =
    ap (λ (rs : List Row). parameter_rows p ++ rs)
    (e ∙ ap (λ (b : Bool). parted false ps ++ parted b qs) (no_longer ps))
    ∙ sym (append_assoc (parameter_rows p) (parted false ps) (parted false qs))

pub parted_append : (first : Bool) (ps qs : List Parameter)
    → parted first (ps ++ qs) ≡ parted first ps ++ parted (still_first first ps) qs
parted_append first [] qs = refl
parted_append true (p ∷ ps) qs = behind p ps qs (parted_append false ps qs)
parted_append false (p ∷ ps) qs =
    ap (λ (rs : List Row). punct COMMA ∷ rs) (behind p ps qs (parted_append false ps qs))
