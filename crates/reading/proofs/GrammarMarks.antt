-- The role grammar does not look at marks: what obeys is what is read, and that is the same. So lists that are equal
-- but
-- for marks are read alike.
use mathlib.Core.Path.{◌≡◌, refl, ap, ◌∙◌, sym, subst}
use mathlib.Core.List.{List, ◌++◌}
use Prim.Native.Nat.{ℕ}
use native.Mathlib.Omega.{arith}
use lib.ListN.{replicate}
use Rattle.token_list.specs.Stream.{size}
use Rattle.token_list.specs.Marks.{unmarked, stream_of, EqualButMarks}
use Rattle.token_list.proofs.Marks.{size-unmarked}
use Rattle.reading.specs.Role as role
use Rattle.reading.specs.Declaration.{Declaration}
use Rattle.reading.specs.Took.{Took, took, stopped}
use Rattle.reading.specs.Reading.{item}
use Rattle.reading.specs.Promise.{Assignment}
use Rattle.reading.specs.Marks.{unmarked_declaration, unmarked_took, ReadAlike}
use Rattle.reading.proofs.Marks.{item-same, answers_alike, buffers_same, refusals_same}
use Rattle.reading.proofs.GrammarSound.{obeys_sound}
use Rattle.reading.proofs.GrammarComplete.{Read, obeys_complete}

-- two lists that are equal but for marks have the same assignments
pub assignments_same : {s t : List ℕ} → EqualButMarks s t → (roles : List ℕ) → Assignment s roles → Assignment t roles
assignments_same {s} {t} e roles o = go (obeys_complete o)
  where
    go : Read (stream_of s) roles → Assignment t roles
    go a = by-item (item 0 (stream_of t)) refl (sym (item-same e) ∙ ap (unmarked_took unmarked_declaration) a.reading)
      where
        by-item : (u : Took Declaration) → item 0 (stream_of t) ≡ u
            → unmarked_took unmarked_declaration u
            ≡ took (unmarked_declaration a.declaration) a.taken (unmarked a.rest)
            → Assignment t roles
        by-item (took d rs us) i q =
            let same : rs ≡ a.taken = cc q in
            let rest : unmarked us ≡ unmarked a.rest = cc q in
            let count : size us ≡ size a.rest = sym (size-unmarked us) ∙ ap size rest ∙ size-unmarked a.rest in
            let all : (rs ++ replicate (size us) role.left_over) ≡ roles =
            (λ j. same j ++ replicate (count j) role.left_over) ∙ sym a.roles in
            subst (Assignment t) all (obeys_sound i)
        by-item (stopped w n p) i q = let z : ◌≡◌ {A = ℕ} 0 1 = cc in absurd (omega arith)

pub read_alike : {s t : List ℕ} → EqualButMarks s t → ReadAlike s t
read_alike e =
    record {
      answers = answers_alike e;
      buffers = buffers_same e;
      refusals = refusals_same e;
      assignments = assignments_same e;
    }
