-- The table of next rules, and the search by positions.
use Rattle.std.specs.Prelude.{ℕ, suc, ◌+◌, ◌*◌, ◌≤◌, ◌<◌, ◌≡◌, ◌⊎◌, Bool, true, false, List, length, get_or}
use Rattle.std.proofs.Math.Option.{none, some}
use Rattle.format.specs.Limits.{max_symbols, first_variable}
use Rattle.format.specs.Lists.{entry}
use Rattle.terms.specs.Term.{Term, Terms, app, size}
use Rattle.terms.specs.Equation.{Equation}
use Rattle.terms.specs.declared.direction.Direction.{Direction}
use Rattle.terms.specs.ForContracts.Stored.{SubjectIs}
use Rattle.reducing.specs.Run.{try}
use Rattle.reducing.specs.Test.{line_test}
use Rattle.reducing.specs.ForContracts.Rules.{rule_number}
use Rattle.rules.specs.ForContracts.Rows.{RowsAre, bound_count}
use Rattle.rules.specs.ForContracts.Walks.{RulesAt}

-- A row for each symbol, with an entry for each rule and one behind the last.
abbrev pub next_bytes : ℕ
next_bytes = max_symbols * bound_count

abbrev pub next_at : List ℕ → (f k : ℕ) → ℕ
next_at next f k = get_or next (f * bound_count + k) 0

-- The rule steps at no term whose symbol is `f`.
abbrev pub Idle : (f i : ℕ) → Equation → Direction → Type 0
Idle f i e d = (filling subject : Term) (p : ℕ) (ts : Terms) → try filling line_test subject p (app f ts) i e d ≡ none

-- From each entry the next is not before it, and the rules between them step at no term with that symbol.
pub record NextIs (next : List ℕ) (rules : ℕ) (es : List Equation) : Type 0 where
  pub whole : length next ≡ next_bytes
  pub onward : (f k : ℕ) → f < max_symbols → k ≤ rules → k ≤ next_at next f k
  pub within : (f k : ℕ) → f < max_symbols → k ≤ rules → next_at next f k ≤ rules
  pub idle : (f k i : ℕ) (e : Equation) (d : Direction) → f < max_symbols → entry es i ≡ some e → k ≤ rule_number i d → rule_number i d < next_at next f k → Idle f i e d

-- One entry of each row is put.
pub record NextPut (before after : List ℕ) (rule top : ℕ) (live : Bool) : Type 0 where
  pub same_length : length after ≡ length before
  pub others : (f k : ℕ) → f < max_symbols → k < bound_count → (k ≡ rule → ⊥) → next_at after f k ≡ next_at before f k
  pub rule_itself : (f : ℕ) → f < max_symbols → live ≡ true → (first_variable ≤ top) ⊎ (top ≡ f) → next_at after f rule ≡ rule
  pub next_one : (f : ℕ) → f < max_symbols → (live ≡ false) ⊎ ((top < first_variable) × (top ≡ f → ⊥)) → next_at after f rule ≡ next_at before f (suc rule)

-- The rules of these equations, with their lines kept.
module _ (equations lengths : List ℕ) (rules : ℕ) (bounds table : List ℕ) where
  pub record RulesKept (arities : List ℕ) (es : List Equation) : Type 0 where
    pub rows : RowsAre equations lengths arities es
    pub counted : rules ≡ 2 * length es
    pub bounds_length : length bounds ≡ bound_count
    pub kept : RulesAt bounds table es

  pub record HasRulesKept : Type 0 where
    pub arities : List ℕ
    pub those : List Equation
    pub are : RulesKept arities those

-- All that the search by positions goes by.
module _ (equations lengths : List ℕ) (rules : ℕ) (bounds next table nodes sizes : List ℕ) where
  pub record SearchIs (arities : List ℕ) (es : List Equation) (subject : Term) : Type 0 where
    pub rules_are : RulesKept equations lengths rules bounds table arities es
    pub next_is : NextIs next rules es
    pub subject_is : SubjectIs nodes sizes arities subject

  pub record HasSearch (n : ℕ) : Type 0 where
    pub arities : List ℕ
    pub those : List Equation
    pub subject : Term
    pub is : SearchIs arities those subject
    pub counted : n ≡ size subject
