-- `same_nodes` meets its contract.
use native.Mathlib.Omega.{arith}
use borrow.Author.Tests.{not-false}
use Rattle.cells.specs.Theory.Nodes.{ends_within}
use Rattle.clauses.proofs.Members.{told_equal}
use Rattle.clauses.proofs.among.same_nodes.Goals as goal

pub same_bytes-requires : goal.same_bytes-requires
same_bytes-requires c =
    (omega (arith, c.from-n.ensures, ends_within c.requires.2.first.denotes, c.requires.0), omega (arith, c.if-n-from.false, c.from-n.ensures, c.from.ensures, ends_within c.requires.2.second.denotes, c.requires.0))

pub same_bytes-requires-2 : goal.same_bytes-requires-2
same_bytes-requires-2 c =
    (omega (arith, c.from-n.ensures, ends_within c.requires.2.first.denotes, c.requires.1), omega (arith, c.if-n-from.false, c.from-n.ensures, c.from.ensures, ends_within c.requires.2.second.denotes, c.requires.1))

pub returns : goal.returns
returns c =
    let size = c.from-n.ensures in
    told_equal (rw size at (c.same_bytes.ensures.0 (not-false c.same_bytes.result c.if-not-same_bytes.false-raw))) (rw size at c.same_bytes-2.ensures.0)
