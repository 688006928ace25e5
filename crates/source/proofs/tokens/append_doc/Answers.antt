use mathlib.Core.Path.{ap, sym}
use mathlib.Core.List.{List, ◌++◌, append_assoc}
use Prim.Native.Nat.{ℕ}
use Rattle.token_list.specs.Byte.{bytes}
use Rattle.output.proofs.Appends.{appended_join, appended_as}
use Rattle.source.proofs.tokens.append_doc.Goals as goal

pub returns : goal.returns
returns c = let whole = sym (append_assoc c.args.text.now (bytes "\"") (bytes "\nc ]\n")) in
    appended_as (ap (λ (x : List ℕ). bytes "p #\no [\ni doc\np =\nl \"" ++ x) whole)
    (appended_join c.append-start.ensures (appended_join c.append-end.ensures c.append.ensures))
