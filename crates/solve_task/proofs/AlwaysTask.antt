-- Laws for the call always: what its walk earns.
use Prim.Native.Nat.{ℕ, ◌+◌}
use mathlib.Core.Bool.{Bool, true, false}
use Rattle.std.specs.Int.{from_bool}
use mathlib.Core.Path.{◌≡◌, refl, sym, ap, ◌∙◌}
use mathlib.Core.List.{List}
use Rattle.format.specs.Limits.{no_position, table_bytes}
use Rattle.format.specs.declared.refusal.Refusal.{Refusal}
use Rattle.solving.specs.Always.{Answered}
use Rattle.reducing.specs.Walks.{equation_line}
use Rattle.solve_equation.specs.ForContracts.Decides.{answered_as}
use Rattle.outcomes.specs.Buffer.{fields, refusal_number, filled, cleared, blanked}
use Rattle.outcomes.specs.Outcome.{table_unsolved, answer_number, always_answered}
use Rattle.outcomes.specs.Theory.Outcomes.{table_outcome}
use Rattle.std.specs.Prelude.{Result, Ok, Err}
use Rattle.solve_equation.specs.declared.decide.Answer.{Answer}

-- Part by part: to rewrite in the whole outcome takes seconds.
same_outcome : {m n : ℕ} {table table₁ scratch scratch₁ : List ℕ} → n ≡ m → table₁ ≡ table → scratch₁ ≡ scratch → table_outcome m table scratch ≡ table_outcome n table₁ scratch₁
same_outcome {n = n} {table = table} {table₁} {scratch} e b c = ap (λ n. table_outcome n table scratch) (sym e) ∙ ap (λ t. table_outcome n t scratch) (sym b) ∙ ap (table_outcome n table₁) (sym c)

pub yes_number : (yes : Bool) → from_bool yes ≡ answer_number yes
unfolding answer_number
yes_number true = refl
yes_number false = refl

module _ (equation : ℕ) (table scratch : List ℕ) {a : Answered} {r : Result Answer Refusal} (told : answered_as r ≡ a) {n : ℕ} {blank last : List ℕ} (b : blank ≡ filled table_bytes no_position table) (c : last ≡ cleared scratch) where
  pub always_decided : {d : Answer} → r ≡ Ok d → n ≡ fields (answer_number d.yes) d.turns 0 → always_answered equation table scratch a ≡ table_outcome n blank last
  unfolding always_answered answered_as blanked
  always_decided x e = ap (always_answered equation table scratch) (sym told ∙ ap answered_as x) ∙ same_outcome e b c

  pub always_refused : {why : Refusal} → r ≡ Err why → n ≡ refusal_number why (equation + 2) → always_answered equation table scratch a ≡ table_outcome n blank last
  unfolding always_answered answered_as table_unsolved equation_line blanked
  always_refused x e = ap (always_answered equation table scratch) (sym told ∙ ap answered_as x) ∙ same_outcome e b c
