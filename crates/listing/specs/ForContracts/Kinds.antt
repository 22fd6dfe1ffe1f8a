-- The first byte of each kind of frame that is printed.
use Rattle.std.specs.Prelude.{ℕ}
use Rattle.listing.specs.declared.kinds.PrintedKind.{PrintedKind}
use Rattle.listing.specs.declared.kinds.PrintedKind.TheVariants.{Table, Line, Run, Step, Judgement, Comparison, Total, Refusal}
use Rattle.listing.specs.Listing.{table_kind, line_kind, run_kind, step_kind, judgement_kind, comparison_kind, total_kind, refusal_kind}

abbrev pub printed_kind : PrintedKind → ℕ
printed_kind Table = table_kind
printed_kind Line = line_kind
printed_kind Run = run_kind
printed_kind Step = step_kind
printed_kind Judgement = judgement_kind
printed_kind Comparison = comparison_kind
printed_kind Total = total_kind
printed_kind Refusal = refusal_kind
