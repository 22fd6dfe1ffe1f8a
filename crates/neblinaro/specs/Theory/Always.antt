-- Document 02, W6, over the call always and over the definitions.
use Rattle.std.specs.Prelude.{ℕ, ◌≡◌, refl, Bool, true, List}
use Rattle.std.proofs.Common.{sym, ap, ◌∙◌}
use Rattle.sheet.specs.Reading.{Reading, refused_at, accepted}
use Rattle.solving.specs.Always.{Answered, answered, unanswered, always}
use Rattle.solving.proofs.Theory.Always.{always_solved, always_no, always_refused, yes_stands, yes_reached, always_yes}
use Rattle.outcomes.specs.Buffer.{fields, refusal_byte, cleared, blanked}
use Rattle.outcomes.specs.Asked.{asked, Directed, direction_asked}
use Rattle.outcomes.specs.Outcome.{table_fits, table_unsolved, directed_answer, directed_call, solve_walked, solve_directed, solve_call, answer_number, always_answered, always_directed, always_call}
use Rattle.outcomes.specs.Theory.Number.{fields_byte, refused_not_zero}
use Rattle.neblinaro.specs.Demands.{DirectionNamed, AlwaysDemand, AlwaysDemanded, RefusedAsSolve, YesIsInTheTable, YesIsInTheWalk, YesAsSoon, YesStands, NoAtTheEnd, AlwaysServes}
use Rattle.neblinaro.specs.Theory.Directed.{named_limits, directed_gives, directed_served}

-- 1. What the call gives.
always_gives : (sheet : List ℕ) (e d : ℕ) (table scratch : List ℕ) (n : DirectionNamed sheet e d) (b : Bool) (t : ℕ) → table_fits table scratch ≡ true → always n.equation n.direction ≡ answered b t
    → always_call sheet e d table scratch ≡ record { returned = fields (answer_number b) t 0; table = blanked table; scratch = cleared scratch }
unfolding always_call always_directed always_answered
always_gives sheet e d table scratch n b t f w = directed_gives (always_directed e table scratch) sheet e d table scratch n f ∙ rw w

pub always_demanded : AlwaysDemanded
unfolding always_call always_directed always_answered table_unsolved
always_demanded sheet e d table scratch h =
    let k = directed_served (always_directed e table scratch) sheet e d table scratch h in
    by k.named k.fits (always k.named.equation k.named.direction) refl k.serves
  where
    by : (n : DirectionNamed sheet e d) → table_fits table scratch ≡ true → (a : Answered) → always n.equation n.direction ≡ a → refusal_byte (always_answered e table scratch a).returned ≡ 0 → AlwaysDemand sheet e d table scratch
    by n f (unanswered r) w h = absurd (refused_not_zero r _ h)
    by n f (answered b t) w h = record {
      named = n;
      answer = b;
      turns = t;
      walked = w;
      given = always_gives sheet e d table scratch n b t f w;
      holds = λ y ρ. always_yes n.equation n.direction (named_limits n) t (w ∙ ap (λ b. answered b t) y) ρ;
    }

pub always_serves : AlwaysServes
always_serves sheet s e d q o b t table scratch r x y w f =
    let n : DirectionNamed sheet e d = record { content = s; reads = r; equation = q; direction = o; equation_there = x; direction_there = y } in
    rw (always_gives sheet e d table scratch n b t f w) (fields_byte _ _ _)

-- 2. Beside solve.
pub refused_as_solve : RefusedAsSolve
unfolding always_call always_directed always_answered solve_call solve_directed solve_walked directed_call directed_answer asked
refused_as_solve sheet e d table scratch h = fits (table_fits table scratch) h
  where
    walks : (q : Directed) (a : Answered) → always q.equation q.direction ≡ a → ¬ (refusal_byte (always_answered e table scratch a).returned ≡ 0)
        → always_answered e table scratch a ≡ solve_directed e table scratch q
    walks q (answered b t) w h = absurd (h (fields_byte (answer_number b) t 0))
    walks q (unanswered r) w h = sym (ap (solve_walked e table scratch) (always_refused q.equation q.direction r w))

    answers : (r : Reading Directed) → ¬ (refusal_byte (directed_answer (always_directed e table scratch) table scratch r).returned ≡ 0)
        → directed_answer (always_directed e table scratch) table scratch r ≡ directed_answer (solve_directed e table scratch) table scratch r
    answers (refused_at r l) h = refl
    answers (accepted q) h = walks q (always q.equation q.direction) refl h

    fits : (b : Bool) → ¬ (refusal_byte (directed_answer (always_directed e table scratch) table scratch (asked b sheet (direction_asked e d))).returned ≡ 0)
        → directed_answer (always_directed e table scratch) table scratch (asked b sheet (direction_asked e d)) ≡ directed_answer (solve_directed e table scratch) table scratch (asked b sheet (direction_asked e d))
    fits b h = answers (asked b sheet (direction_asked e d)) h

pub yes_is_in_the_table : YesIsInTheTable
unfolding solve_call
yes_is_in_the_table sheet e d table scratch h s =
    let f = (directed_served (solve_directed e table scratch) sheet e d table scratch h).fits in
    let k = always_solved s.named.equation s.named.direction s.lines s.turns s.walked in
    (k.turns, k.no_more, always_gives sheet e d table scratch s.named _ k.turns f k.answers)

-- 3. What its answer says of the walk.
pub yes_is_in_the_walk : YesIsInTheWalk
yes_is_in_the_walk q o w = let k = always_solved q o w.table w.turns w.walked in (k.turns, k.no_more, k.answers)

pub yes_as_soon : YesAsSoon
yes_as_soon q o turns w = let k = yes_reached q o turns w in record { table = k.table; comes = k.comes; has = k.has; counted = (k.some_turn, k.within); none_earlier = k.none_earlier }

pub yes_stands_so : YesStands
yes_stands_so q o n table l c h = let k = yes_stands q o n table l c h in (k.turns, k.no_more, k.answers)

pub no_at_the_end : NoAtTheEnd
no_at_the_end q o turns w = always_no q o turns w
