-- Every chain ends (document 02, W10): descents of ground terms, reductions, and runs and walks without their limits.
use Rattle.std.proofs.Common.{sym, ap, ap₂, ◌∙◌}
use Rattle.std.specs.Prelude.{length}
use Rattle.format.specs.Buffer.{written}
use Rattle.format.specs.Theory.Lists.{every_entry}
use Rattle.terms.specs.Filling.{filling}
use Rattle.terms.specs.ForContracts.Limits.{WithinLimits}
use Rattle.path_order.proofs.Theory.Accessible.{ground_accessible}
use Rattle.ordering.specs.Theory.Descent.{no_endless_descent}
use Rattle.sheet.specs.Theory.Accepted.{accepted_valid}
use Rattle.solving.specs.Line.{records}
use Rattle.termination.proofs.Theory.Walks.{walk_unlimited, ends_as_solved, walk_ends_once, deeper_walk}
use Rattle.termination.specs.Theory.Reduction.{no_endless_reduction}
use Rattle.termination.specs.Theory.Runs.{run_ends, ends_as_run, run_ends_once}
use Rattle.outcomes.specs.Buffer.{fields}
use Rattle.neblinaro.specs.Demands.{GroundTermsAccessible, NoEndlessDescent, NoEndlessReduction, RunsEnd, RunsEndOnce, RunsEndAlike, WalksEnd, WalksEndOnce, DepthIsNoLimit, WalksEndAsSolved, WalksEndAsGiven}
use Rattle.neblinaro.specs.Theory.Walks.{accepted_limits}
use Rattle.neblinaro.specs.Theory.Tables.{table_demand}
use Rattle.neblinaro.specs.Theory.Filling.{filling_demanded}

-- 1. Descents and reductions.
pub ground_terms_accessible : GroundTermsAccessible
ground_terms_accessible = ground_accessible

pub descents_end : NoEndlessDescent
descents_end = no_endless_descent

pub reductions_end : NoEndlessReduction
reductions_end sheet s r =
    no_endless_reduction s.arities (filling s.arities) (filling_demanded sheet s r).is_ground s.equations (accepted_valid sheet s r).0.equations

-- 2. Runs.
pub runs_end : RunsEnd
runs_end sheet s r solves =
    run_ends s.arities (filling s.arities) (filling_demanded sheet s r).is_ground s.equations (accepted_valid sheet s r).0.equations solves

pub runs_end_once : RunsEndOnce
runs_end_once = run_ends_once

pub runs_end_alike : RunsEndAlike
runs_end_alike = ends_as_run

-- 3. Walks.
pub walks_end : WalksEnd
walks_end = walk_unlimited

pub walks_end_once : WalksEndOnce
walks_end_once = walk_ends_once

pub depth_is_no_limit : DepthIsNoLimit
depth_is_no_limit = deeper_walk

pub walks_end_as_solved : WalksEndAsSolved
walks_end_as_solved sheet s r e q x d solves u = ends_as_solved q d (every_entry WithinLimits s.equations e (accepted_limits sheet s r) x) solves u

pub walks_end_as_given : WalksEndAsGiven
walks_end_as_given sheet e d table scratch h =
    let t = table_demand sheet e d table scratch h in
    let n = t.named in
    let u = walk_unlimited n.equation n.direction in
    let (same, as_many) = walks_end_as_solved sheet n.content n.reads e n.equation n.equation_there n.direction (record { table = t.lines; turns = t.turns; walked = t.walked }) u in
    record { named = n; unlimited = u; counts = t.counts ∙ ap₂ (λ ls k. fields (length ls) k 0) (sym same) (sym as_many); bytes = t.bytes ∙ ap (λ ls. written (records ls) table) (sym same) }
