-- What ties the code's answer, the length of a text or a refusal, to the answer.
use Rattle.std.specs.Prelude.{◌≡◌, List, ℕ, ◌≤◌, length, take, Result, Ok, Err}
use Rattle.output.specs.Answer.{Answer, wrote, refused, output}
use Rattle.token_list.specs.declared.check.Refusal.{Refusal}

-- what an answer says, of the output x
abbrev pub answer_of : List ℕ → Result ℕ Refusal → Answer
answer_of x (Ok n) = wrote (take n x)
answer_of x (Err r) = refused r.number r.place

abbrev pub within : List ℕ → Result ℕ Refusal → Type 0
within x (Ok n) = n ≤ length x
within x (Err r) = Unit

-- the output was `before` and is `after`
pub record WrittenAs (before after : List ℕ) (a : Answer) (r : Result ℕ Refusal) : Type 0 where
  pub room : within after r
  pub answer : answer_of after r ≡ a
  pub output : after ≡ output before a

-- how long what is printed can be; no refusal has more than 64 bytes
abbrev pub at_most : Result ℕ Refusal → ℕ
at_most (Ok n) = n
at_most (Err r) = 64
