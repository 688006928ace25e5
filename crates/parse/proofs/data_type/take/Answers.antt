use Rattle.parse.proofs.Meeting as meeting
use Rattle.parse.specs.Contract as contract
use Rattle.reading.specs.Reading as reading
use Rattle.parse.proofs.Places as places
use Rattle.reading.specs.Took.{Reader, after, pure, ◌>>=◌}
use Rattle.reading.specs.Declaration as declaration
use Rattle.reading.specs.Role as role
use Rattle.token_list.specs.Stream.{Trees}
use Prim.Native.Nat.{ℕ}
use mathlib.Core.List.{List}
use mathlib.Core.Path.{◌≡◌, sym}
-- the name, and the head that the word and the name make
use Rattle.parse.proofs.data_type.take.Goals as goal

abbrev head_of : declaration.Kind → List ℕ → Reader reading.Head
head_of k n = pure (record { kind = k; name = n })

abbrev name_of : declaration.Kind → reading.Word → Reader reading.Head
name_of k v = reading.named! v >>= head_of k

abbrev rest : declaration.Kind → Reader reading.Head
rest k = reading.word role.item-name >>= name_of k

split : (row : ℕ) (ts : Trees) → reading.data_type row ts ≡ after row (contract.item_word row ts) rest
split row ts = sym (meeting.after_assoc row (reading.word role.item-word row ts) reading.named_kind rest)

pub consume_ident-requires : goal.consume_ident-requires
consume_ident-requires c = meeting.landed c.in_ok-kind.ensures

pub wrong_token-requires : goal.wrong_token-requires
wrong_token-requires c = meeting.landed c.in_ok-kind.ensures

pub returns-in_err-kind : goal.returns-in_err-kind
returns-in_err-kind c =
    meeting.meets_given_up contract.head_said (contract.head_shown c.args.s.now c.args.c) c.from_residual.ensures.1
    (meeting.meets_as (split c.args.c.row (contract.stream c.args.s.now c.args.c))
    (meeting.meets_no rest c.in_err-kind.ensures))

pub returns-in_default : goal.returns-in_default
returns-in_default c =
    meeting.meets_as (split c.args.c.row (contract.stream c.args.s.now c.args.c))
    (meeting.meets_then rest c.in_ok-kind.ensures
    (λ k h. meeting.meets_missing (name_of k) c.in_default.ensures (meeting.meets_wrong _ _ c.wrong_token.ensures)))

pub returns : goal.returns
returns c =
    meeting.meets_as (split c.args.c.row (contract.stream c.args.s.now c.args.c))
    (meeting.meets_then rest c.in_ok-kind.ensures
    (λ k h. meeting.meets_word (name_of k) _ c.in-Some.ensures
    (λ text x. meeting.meets_stay _ _ _ _ _ (meeting.landed c.in-Some.ensures) (
      h,
      places.placed_name c.args.s.now c.in_ok-kind.d
          (places.meets_beyond contract.item_word c.in_ok-kind.ensures).here x,
    ))))
