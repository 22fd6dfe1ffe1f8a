-- What a call that asks for an equation in a direction, solve or always, gives.
use Rattle.std.specs.Prelude.{ℕ, ◌≡◌, Bool, false, List}
use Rattle.std.proofs.Math.Path.{refl, ap}
use Rattle.std.proofs.Common.{◌∙◌, arith}
use Rattle.std.proofs.Math.Bool.{true}
use Rattle.std.proofs.Math.Option.{Option, none, some}
use Rattle.format.specs.declared.refusal.Refusal.TheVariants.{ShortBuffer as short_buffer}
use Rattle.format.specs.Lists.{entry}
use Rattle.format.specs.Theory.Lists.{every_entry}
use Rattle.terms.specs.Equation.{Equation, direction_of}
use Rattle.terms.specs.declared.direction.Direction.{Direction}
use Rattle.terms.specs.ForContracts.Limits.{WithinLimits}
use Rattle.sheet.specs.Sheet.{Sheet}
use Rattle.sheet.specs.Reading.{Reading, refused_at, accepted, read}
use Rattle.sheet.specs.ForContracts.Valid.{ValidEquation}
use Rattle.sheet.specs.Theory.Accepted.{accepted_valid}
use Rattle.outcomes.specs.Buffer.{refusal_byte}
use Rattle.outcomes.specs.Asked.{found, find, asked, Directed, directed_in, direction_asked}
use Rattle.outcomes.specs.Outcome.{TableOutcome, table_fits, directed_answer, directed_call}
use Rattle.outcomes.specs.Theory.Number.{refused_not_zero}
use Rattle.neblinaro.specs.Demands.{DirectionNamed}

pub named_limits : {sheet : List ℕ} {e d : ℕ} (n : DirectionNamed sheet e d) → WithinLimits n.equation
named_limits {sheet} {e} n = (every_entry (ValidEquation n.content.arities) n.content.equations e (accepted_valid sheet n.content n.reads).0.equations n.equation_there).limits

-- 1. What is asked for.
abbrev pub asked_for : {sheet : List ℕ} {e d : ℕ} → DirectionNamed sheet e d → Directed
asked_for n = record { equation = n.equation; direction = n.direction }

asked_side : (sheet : List ℕ) (e d : ℕ) (q : Directed) → asked true sheet (direction_asked e d) ≡ accepted q → (n : DirectionNamed sheet e d) × (asked_for n ≡ q)
unfolding asked find found direction_asked directed_in
asked_side sheet e d q h = from (read sheet) refl h
  where
    parts : (s : Sheet) → read sheet ≡ accepted s → (o : Option Equation) (p : Option Direction) → entry s.equations e ≡ o → direction_of d ≡ p → found (directed_in o p) ≡ accepted q
        → (n : DirectionNamed sheet e d) × (asked_for n ≡ q)
    parts s r none p x y h = let z : ◌≡◌ {A = ℕ} 0 1 = cc in absurd (omega arith)
    parts s r (some o) none x y h = let z : ◌≡◌ {A = ℕ} 0 1 = cc in absurd (omega arith)
    parts s r (some o) (some p) x y h =
        let k : ◌≡◌ {A = Directed} (record { equation = o; direction = p }) q = cc in
        (record { content = s; reads = r; equation = o; direction = p; equation_there = x; direction_there = y }, k)

    from : (r : Reading Sheet) → read sheet ≡ r → find (direction_asked e d) r ≡ accepted q → (n : DirectionNamed sheet e d) × (asked_for n ≡ q)
    from (refused_at x l) r h = let z : ◌≡◌ {A = ℕ} 0 1 = cc in absurd (omega arith)
    from (accepted s) r h = parts s r (entry s.equations e) (direction_of d) refl refl h

named_asked : (sheet : List ℕ) (e d : ℕ) (n : DirectionNamed sheet e d) → asked true sheet (direction_asked e d) ≡ accepted (asked_for n)
unfolding asked find found direction_asked directed_in
named_asked sheet e d n = rw (n.reads, n.equation_there, n.direction_there)

-- 2. With buffers that are long enough the call gives what is asked for, and a call that serves has named a direction.
module _ (gives : Directed → TableOutcome) (sheet : List ℕ) (e d : ℕ) (table scratch : List ℕ) where
  pub directed_gives : (n : DirectionNamed sheet e d) → table_fits table scratch ≡ true → directed_call gives sheet e d table scratch ≡ gives (asked_for n)
  unfolding directed_call directed_answer
  directed_gives n f = rw (f, named_asked sheet e d n)

  pub record NamedAndServed : Type 0 where
    pub named : DirectionNamed sheet e d
    pub fits : table_fits table scratch ≡ true
    pub serves : refusal_byte (gives (asked_for named)).returned ≡ 0

  pub directed_served : refusal_byte (directed_call gives sheet e d table scratch).returned ≡ 0 → NamedAndServed
  unfolding directed_call directed_answer asked
  directed_served h = fits (table_fits table scratch) refl h
    where
      answer : table_fits table scratch ≡ true → (r : Reading Directed) → asked true sheet (direction_asked e d) ≡ r → refusal_byte (directed_answer gives table scratch r).returned ≡ 0 → NamedAndServed
      answer f (refused_at r l) a h = absurd (refused_not_zero r l h)
      answer f (accepted q) a h = let (n, x) = asked_side sheet e d q a in record { named = n; fits = f; serves = ap (λ q. refusal_byte (gives q).returned) x ∙ h }

      fits : (b : Bool) → table_fits table scratch ≡ b → refusal_byte (directed_answer gives table scratch (asked b sheet (direction_asked e d))).returned ≡ 0 → NamedAndServed
      fits false f h = absurd (refused_not_zero short_buffer 0 h)
      fits true f h = answer f (asked true sheet (direction_asked e d)) refl h
