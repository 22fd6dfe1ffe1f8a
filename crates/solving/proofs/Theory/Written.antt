-- What a table that the walk ends with has, so that it can be written as records.
use Rattle.std.specs.Prelude.{ℕ, ◌≤◌, ◌≡◌, refl, Bool, true, false, ◌||◌, List, [], ◌∷◌, length, ltb}
use Rattle.std.proofs.Math.Option.{Option, none, some}
use Rattle.std.proofs.Common.{nltb→le, arith}
use Rattle.format.specs.Lists.{any}
use Rattle.format.specs.Limits.{variable_count, max_elements, max_lines}
use Rattle.format.specs.declared.refusal.Refusal.{Refusal}
use Rattle.format.specs.declared.refusal.Refusal.TheVariants.{TooManyElements as too_many_elements, TooManyLines as too_many_lines}
use Rattle.terms.specs.Position.{Node}
use Rattle.solving.specs.Line.{Bindings, Element, equal, greater, Line, line}
use Rattle.solving.specs.Walk.{crowded, over_limit}
use Rattle.solving.specs.Theory.Seen.{Reduced}
use Rattle.solving.proofs.Theory.Table.{ProperTable}
use Rattle.solving.proofs.Theory.Reduced.{AllReduced, Finished}
use Rattle.solving.specs.ForContracts.Written.{Inequality, Inequalities, WrittenLines}

-- "up to 40 elements", "at most 255 lines".
abbrev pub ShortLines : List Line → Type 0
ShortLines [] = Unit {0}
ShortLines (line θ es ∷ ls) = (length es ≤ max_elements) × ShortLines ls

pub record InLimits (table : List Line) : Type 0 where
  pub short_lines : ShortLines table
  pub few_lines : length table ≤ max_lines

not_less : (m n : ℕ) → ltb m n ≡ false → n ≤ m
not_less m n e = nltb→le m n (rw e tt)

none_crowded : (table : List Line) → any crowded table ≡ false → ShortLines table
unfolding any crowded
none_crowded [] e = tt
none_crowded (line θ es ∷ ls) e = go (none_crowded ls) (crowded (line θ es)) refl e
  where
    short : crowded (line θ es) ≡ false → length es ≤ max_elements
    short x = not_less max_elements (length es) x

    go : (any crowded ls ≡ false → ShortLines ls) → (b : Bool) → crowded (line θ es) ≡ b → (b || any crowded ls) ≡ false → (length es ≤ max_elements) × ShortLines ls
    go ih true x e = let z : ◌≡◌ {A = ℕ} 0 1 = cc in absurd (omega arith)
    go ih false x e = (short x, ih e)

-- A table that is over no limit.
pub limits_kept : (table : List Line) → over_limit table ≡ none → InLimits table
unfolding over_limit
limits_kept table e = go (any crowded table) (ltb max_lines (length table)) refl refl e
  where
    go : (b c : Bool) → any crowded table ≡ b → ltb max_lines (length table) ≡ c
        → ◌≡◌ {A = Option Refusal} (elim b [ true ↦ some too_many_elements | false ↦ elim c [ true ↦ some too_many_lines | false ↦ none ] ]) none → InLimits table
    go true c x y e = let z : ◌≡◌ {A = ℕ} 0 1 = cc in absurd (omega arith)
    go false true x y e = let z : ◌≡◌ {A = ℕ} 0 1 = cc in absurd (omega arith)
    go false false x y e = record { short_lines = none_crowded table x; few_lines = not_less max_lines (length table) y }

-- A proper, finished table within the limits.
reduced_inequality : {view : ℕ → Node} {θ : Bindings} (e : Element) → Reduced view θ e → Inequality e
reduced_inequality (equal p q) r = elim r [ ]
reduced_inequality (greater p q) r = tt

reduced_inequalities : (view : ℕ → Node) (θ : Bindings) (es : List Element) → AllReduced view θ es → Inequalities es
reduced_inequalities view θ [] h = tt
reduced_inequalities view θ (e ∷ es) h = (reduced_inequality e h.0, reduced_inequalities view θ es h.1)

pub written_lines : (view : ℕ → Node) (n : ℕ) (table : List Line) → ProperTable view variable_count n table → Finished view table → ShortLines table → WrittenLines n table
written_lines view n [] p f s = tt
written_lines view n (line θ es ∷ ls) p f s = (
  record {
    slots = p.0.0.slots;
    bound_within = p.0.0.within;
    elements_within = p.0.1;
    inequalities = reduced_inequalities view θ es f.0;
    few_elements = s.0;
  },
  written_lines view n ls p.1 f.1 s.1,
)
