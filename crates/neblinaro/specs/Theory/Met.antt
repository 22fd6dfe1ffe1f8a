-- Each field of `Demands` has its theorem.
use Rattle.neblinaro.specs.Demands.{Demands}
use Rattle.neblinaro.specs.Theory.Verdicts.{verdicts_demanded, clauses_demanded, compare_serves}
use Rattle.neblinaro.specs.Theory.Tables.{tables_demanded, tables_exact, solve_serves, solve_refused_by_host}
use Rattle.neblinaro.specs.Theory.Judges.{judges_demanded, judge_serves, judge_refused_in_order}
use Rattle.neblinaro.specs.Theory.Runs.{runs_demanded, runs_are_reference_runs, run_serves, run_refused_by_host}
use Rattle.neblinaro.specs.Theory.Walks.{turns_fit}
use Rattle.neblinaro.specs.Theory.Filling.{filling_demanded, runs_reduce, runs_end_irreducible}
use Rattle.neblinaro.specs.Theory.Always.{always_demanded, refused_as_solve, yes_is_in_the_table, yes_is_in_the_walk, yes_as_soon, yes_stands_so, no_at_the_end, always_serves}
use Rattle.neblinaro.specs.Theory.Termination.{ground_terms_accessible, descents_end, reductions_end, runs_end, runs_end_once, runs_end_alike, walks_end, walks_end_once, depth_is_no_limit, walks_end_as_solved, walks_end_as_given}

pub demands_met : Demands
demands_met = record {
  verdicts_demanded = verdicts_demanded;
  tables_demanded = tables_demanded;
  judges_demanded = judges_demanded;
  runs_demanded = runs_demanded;
  tables_exact = tables_exact;
  runs_are_reference_runs = runs_are_reference_runs;
  compare_serves = compare_serves;
  solve_serves = solve_serves;
  judge_serves = judge_serves;
  run_serves = run_serves;
  judge_refused_in_order = judge_refused_in_order;
  solve_refused_by_host = solve_refused_by_host;
  run_refused_by_host = run_refused_by_host;
  turns_fit = turns_fit;
  filling_demanded = filling_demanded;
  runs_reduce = runs_reduce;
  runs_end_irreducible = runs_end_irreducible;
  always_demanded = always_demanded;
  refused_as_solve = refused_as_solve;
  yes_is_in_the_table = yes_is_in_the_table;
  yes_is_in_the_walk = yes_is_in_the_walk;
  yes_as_soon = yes_as_soon;
  yes_stands_so = yes_stands_so;
  no_at_the_end = no_at_the_end;
  always_serves = always_serves;
  clauses_demanded = clauses_demanded;
  ground_terms_accessible = ground_terms_accessible;
  descents_end = descents_end;
  reductions_end = reductions_end;
  runs_end = runs_end;
  runs_end_once = runs_end_once;
  runs_end_alike = runs_end_alike;
  walks_end = walks_end;
  walks_end_once = walks_end_once;
  depth_is_no_limit = depth_is_no_limit;
  walks_end_as_solved = walks_end_as_solved;
  walks_end_as_given = walks_end_as_given;
}
