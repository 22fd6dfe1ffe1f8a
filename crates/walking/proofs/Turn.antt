-- A turn of the walk, seen from the first unfinished line.
use Prim.Native.Nat.{ℕ, ◌≤◌, ◌<◌}
use mathlib.Core.Path.{◌≡◌, refl, ap, ◌∙◌}
use mathlib.Core.Bool.{Bool, true, false, ◌||◌}
use mathlib.Core.Option.{none, some}
use mathlib.Core.List.{List, [], ◌∷◌, ◌++◌, map}
use lib.ListN.{length}
use borrow.Author.Tests.{lt-ltb, le-ltb}
use Rattle.format.specs.Lists.{any, Every}
use Rattle.format.specs.Theory.Lists.{any_append}
use Rattle.format.specs.Limits.{max_lines}
use Rattle.format.specs.declared.refusal.Refusal.TheVariants.{TooManyElements as too_many_elements, TooManyLines as too_many_lines}
use Rattle.terms.specs.Position.{Node}
use Rattle.solving.specs.Line.{Bindings, Element, Line, line}
use Rattle.solving.specs.Walk.{enough, fully_reduced, becomes, in_front, behind, treat, treat_leftmost, treat_line, turn, crowded, over_limit}
use Rattle.walking.specs.ForContracts.Walking.{AllFinished}

-- The line with the elements `pre` to the left and `post` to the right.
unfoldable pub around : (pre post : List Element) → Line → Line
around pre post (line θ cs) = line θ (pre ++ (cs ++ post))

module _ (view : ℕ → Node) (θ : Bindings) where
  abbrev pub Settled : List Element → Type 0
  Settled = Every (λ e. treat enough view θ e ≡ fully_reduced)

  pub leftmost_none : (es : List Element) → Settled es → treat_leftmost enough view θ es ≡ none
  unfolding treat_leftmost
  leftmost_none [] h = refl
  leftmost_none (e ∷ es) h = rw (h.0, leftmost_none es h.1, treat_leftmost)

  behind_around : (post : List Element) (ms : List Line) → map (behind post) ms ≡ map (around [] post) ms
  unfolding around behind
  behind_around post [] = refl
  behind_around post (line η cs ∷ ms) = ap (line η (cs ++ post) ∷◌) (behind_around post ms)

  front_around : (e : Element) (pre post : List Element) (ms : List Line) → map (in_front e) (map (around pre post) ms) ≡ map (around (e ∷ pre) post) ms
  unfolding around in_front
  front_around e pre post [] = refl
  front_around e pre post (line η cs ∷ ms) = ap (line η (e ∷ (pre ++ (cs ++ post))) ∷◌) (front_around e pre post ms)

  pub leftmost_some : (pre : List Element) (e : Element) (post : List Element) (ms : List Line) → Settled pre → treat enough view θ e ≡ becomes ms
      → treat_leftmost enough view θ (pre ++ (e ∷ post)) ≡ some (map (around pre post) ms)
  unfolding treat_leftmost
  leftmost_some [] e post ms h x = rw (x, treat_leftmost) (ap some (behind_around post ms))
  leftmost_some (d ∷ pre) e post ms h x = rw (h.0, leftmost_some pre e post ms h.1 x, treat_leftmost) (ap some (front_around d pre post ms))

module _ (view : ℕ → Node) where
  pub turn_some : (fs : List Line) (l : Line) (ls new : List Line) → AllFinished view fs → treat_line enough view l ≡ some new → turn enough view (fs ++ (l ∷ ls)) ≡ some (fs ++ (new ++ ls))
  unfolding turn
  turn_some [] l ls new h x = rw (x, turn)
  turn_some (f ∷ fs) l ls new h x = rw (h.0.nothing_left, turn_some fs l ls new h.1 x, turn)

-- The limits: only new lines can be too long.
pub short_append : (xs ys : List Line) → any crowded xs ≡ false → any crowded ys ≡ false → any crowded (xs ++ ys) ≡ false
short_append xs ys h k = any_append crowded xs ys ∙ rw (h, k)

pub finished_short : (view : ℕ → Node) (fs : List Line) → AllFinished view fs → any crowded fs ≡ false
unfolding any
finished_short view [] h = refl
finished_short view (f ∷ fs) h = rw (h.0.short, finished_short view fs h.1, any)

or_true : (b : Bool) → (b || true) ≡ true
or_true true = refl
or_true false = refl

pub crowded_middle : (xs ys zs : List Line) → any crowded ys ≡ true → any crowded (xs ++ (ys ++ zs)) ≡ true
crowded_middle xs ys zs h = any_append crowded xs (ys ++ zs) ∙ (ap (any crowded xs ||◌) (any_append crowded ys zs ∙ rw h) ∙ or_true (any crowded xs))

pub over_elements : (table : List Line) → any crowded table ≡ true → over_limit table ≡ some too_many_elements
unfolding over_limit
over_elements table h = rw (h, over_limit)

pub over_lines : (table : List Line) → any crowded table ≡ false → max_lines < length table → over_limit table ≡ some too_many_lines
unfolding over_limit
over_lines table h l = rw (h, lt-ltb max_lines (length table) l, over_limit)

pub within_limits : (table : List Line) → any crowded table ≡ false → length table ≤ max_lines → over_limit table ≡ none
unfolding over_limit
within_limits table h l = rw (h, le-ltb max_lines (length table) l, over_limit)
