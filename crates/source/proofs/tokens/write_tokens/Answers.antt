use Rattle.source.specs.Lex.{lex}
use Rattle.source.specs.Answer.{rows_of}
use Rattle.source.proofs.Answers.{tokens_over, tokens_long, tokens_list, tokens_sound, tokens_fault, faulted, listed_as}
use Rattle.source.proofs.tokens.write_tokens.Goals as goal

pub returns-in-Err : goal.returns-in-Err
returns-in-Err c = tokens_fault c.args.out.now c.args.s.now (faulted c.in-Err.ensures)

pub returns-in-Ok-None : goal.returns-in-Ok-None
returns-in-Ok-None c =
    let found = listed_as (rw c.in-Ok-None.field-0-is at c.in-Ok-None.ensures) in
    let over = tokens_over c.args.out.now (rows_of (lex c.args.s.now)) found.measured in
    tokens_sound c.args.out.now c.args.s.now found.matched over

pub returns-then-out-size : goal.returns-then-out-size
returns-then-out-size c =
    let found = listed_as (rw c.in-Ok-Some.field-0-is at c.in-Ok-Some.ensures) in
    let size = c.in-Ok-Some.size in
    let long = tokens_long c.args.out.now (rows_of (lex c.args.s.now)) size found.measured c.if-out-size.true in
    tokens_sound c.args.out.now c.args.s.now found.matched long

pub returns-else-out-size : goal.returns-else-out-size
returns-else-out-size c =
    let found = listed_as (rw c.in-Ok-Some.field-0-is at c.in-Ok-Some.ensures) in
    let size = c.in-Ok-Some.size in
    let list = tokens_list c.args.out.now (rows_of (lex c.args.s.now)) size found.measured c.if-out-size.false
    c.append_list.ensures in
    tokens_sound c.args.out.now c.args.s.now found.matched list
