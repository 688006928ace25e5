use Rattle.source.proofs.Walks.{innermost_within, innermost_delimiter}
use Rattle.source.proofs.brackets.delimiter_at.Goals as goal

pub bounds-s-innermost : goal.bounds-s-innermost
bounds-s-innermost c = innermost_within c.innermost.ensures

pub returns-in-None : goal.returns-in-None
returns-in-None c = rw c.in-None.is (λ o os q. innermost_delimiter (rw q at c.innermost.ensures))
