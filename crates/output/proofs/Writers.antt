-- Parts of a text, written one after the other.
use mathlib.Core.Path.{◌≡◌, refl, ap, sym, ◌∙◌}
use mathlib.Core.List.{List, [], ◌++◌, append_assoc, append-nil}
use Prim.Native.Nat.{ℕ}
use Rattle.output.specs.Contract.{Put}
use Rattle.output.specs.Writes.{Writes}
use Rattle.output.specs.declared.writer.Writer.{Writer}
use Rattle.output.proofs.Texts.{joined, nothing, retold}

pub unwritten : {a : Writer} → Writes a a []
unwritten {a} = record { same_output = refl; put = nothing a.out.now a.at a.short }

module _ {a b : Writer} {s t : List ℕ} where
  -- two parts are one text
  pub then : {c : Writer} → Writes a b s → Writes b c t → Writes a c (s ++ t)
  then p q = record { same_output = q.same_output ∙ p.same_output; put = joined p.put q.put }

  -- the same text by another name
  pub writes_as : s ≡ t → Writes a b t → Writes a b s
  writes_as e p = record { same_output = p.same_output; put = retold (sym e) p.put }

-- what stands in an output from its start on
pub begun : {k s t : List ℕ} {a b : Writer} {h : ℕ} → Put k a.out.now h a.at s → Writes a b t
    → Put k b.out.now h b.at (s ++ t)
begun p q = joined p q.put

-- the same where the output is known by another name, as when the writer is gone
pub left_at : {k l m t : List ℕ} {h i : ℕ} → m ≡ l → Put k l h i t → Put k m h i t
left_at e p = record { next = p.next; bytes = e ∙ p.bytes; short = p.short }

-- ## Loops

-- a text is written from a on, and at b the rest of it is left
pub record Going (a b : Writer) (whole rest : List ℕ) : Type 0 where
  pub done : List ℕ
  pub parts : done ++ rest ≡ whole
  pub writes : Writes a b done

pub going : {a : Writer} {whole rest : List ℕ} → rest ≡ whole → Going a a whole rest
going e = record { done = []; parts = e; writes = unwritten }

module _ {a b : Writer} {whole : List ℕ} where
  pub goes_on : {c : Writer} {rest s t : List ℕ} → Going a b whole rest → rest ≡ s ++ t → Writes b c s
      → Going a c whole t
  goes_on {s = s} {t} g e w = record {
    done = g.done ++ s;
    parts = append_assoc g.done s t ∙ ap (λ (r : List ℕ). g.done ++ r) (sym e) ∙ g.parts;
    writes = then g.writes w;
  }

  -- what is left by another name
  pub left_as : {rest t : List ℕ} → Going a b whole rest → rest ≡ t → Going a b whole t
  left_as g e = record {
    done = g.done;
    parts = ap (λ (r : List ℕ). g.done ++ r) (sym e) ∙ g.parts;
    writes = g.writes;
  }

  pub gone : {rest : List ℕ} → Going a b whole rest → rest ≡ [] → Writes a b whole
  gone g e = writes_as (sym g.parts ∙ ap (λ (r : List ℕ). g.done ++ r) e ∙ append-nil g.done) g.writes
