-- The laws of `always` (document 02, W6).
use Prim.Native.Nat.{ℕ, zero, suc, ◌+◌, ◌≤◌, ◌<◌}
use Rattle.std.proofs.Math.Path.{◌≡◌, refl, ap}
use Rattle.std.proofs.Common.{sym, ◌∙◌, inl, inr}
use Rattle.std.specs.Prelude.{Bool, ◌||◌}
use Rattle.std.proofs.Math.Bool.{true, false}
use Rattle.std.proofs.Math.Option.{Option, none, some, map}
use mathlib.Core.List.{List, [], ◌∷◌, ◌++◌}
use Rattle.std.proofs.Math.Decide.{dec_lt}
use native.Mathlib.Omega.{arith}
use Rattle.format.specs.Limits.{variable_count, max_turns}
use Rattle.format.specs.declared.refusal.Refusal.{Refusal}
use Rattle.format.specs.Lists.{any, all}
use Rattle.terms.specs.Term.{Term, Values, inst}
use Rattle.terms.specs.Position.{Node}
use Rattle.terms.specs.Equation.{Equation, source, target, source_position, target_position, view, value}
use Rattle.terms.specs.declared.direction.Direction.{Direction}
use Rattle.terms.specs.ForContracts.Limits.{WithinLimits}
use Rattle.terms.specs.Theory.Limits.{positions_few}
use Rattle.terms.specs.Theory.Positions.{source_at, target_at, source_within, target_within}
use Rattle.terms.specs.Theory.View.{layout, model}
use Rattle.path_order.specs.Order.{◌≻◌}
use Rattle.solving.specs.Line.{Bindings, Line, line}
use Rattle.solving.specs.Walk.{Fuel, enough, Walked, solved, refused, over_limit, opening, treat_leftmost, treat_line, turn, walk_until, walk_within, walk, solve}
use Rattle.solving.specs.Turns.{table_after}
use Rattle.solving.specs.Always.{is_unbound, is_empty, has_empty, always_walk, answered, unanswered, answer_of, always, reached}
use Rattle.solving.specs.Holds.{BindingsHold, SomeLineHolds}
use Rattle.solving.proofs.Theory.Reach.{enough_suffices}
use Rattle.solving.specs.Theory.Turns.{Before, before, after_turn, same_table, Unstopped, walk_stops}
use Rattle.solving.specs.Theory.Invariant.{Ended, walk_keeps}
use Rattle.solving.proofs.Theory.Whole.{walk_exact}
use Rattle.solving.specs.Theory.Until.{Beside, alike, stops, until_beside}

-- An empty line holds at all values.
unbound_holds : (ρ : Values) (value : ℕ → Term) (v : ℕ) (θ : Bindings) → all is_unbound θ ≡ true → BindingsHold ρ value v θ
unfolding all is_unbound
unbound_holds ρ value v [] e = tt
unbound_holds ρ value v (none ∷ θ) e = unbound_holds ρ value (suc v) θ e
unbound_holds ρ value v (some p ∷ θ) e = let z : ◌≡◌ {A = ℕ} 0 1 = cc in absurd (omega arith)

pub empty_holds : (ρ : Values) (value : ℕ → Term) (table : List Line) → has_empty table ≡ true → SomeLineHolds ρ value table
unfolding has_empty any is_empty
empty_holds ρ value [] e = let z : ◌≡◌ {A = ℕ} 0 1 = cc in absurd (omega arith)
empty_holds ρ value (line θ [] ∷ ls) e = go (all is_unbound θ) refl (empty_holds ρ value ls) e
  where
    go : (b : Bool) → all is_unbound θ ≡ b → (any is_empty ls ≡ true → SomeLineHolds ρ value ls) → (b || any is_empty ls) ≡ true → SomeLineHolds ρ value (line θ [] ∷ ls)
    go true x ih e = inl (unbound_holds ρ value 0 θ x, tt)
    go false x ih e = inr (ih e)
empty_holds ρ value (line θ (f ∷ fs) ∷ ls) e = inr (empty_holds ρ value ls e)

-- It is finished, so a turn keeps it.
empty_append : (xs ys : List Line) → has_empty ys ≡ true → has_empty (xs ++ ys) ≡ true
unfolding has_empty any
empty_append [] ys e = e
empty_append (x ∷ xs) ys e = go (is_empty x) (empty_append xs ys e)
  where
    go : (b : Bool) → any is_empty (xs ++ ys) ≡ true → (b || any is_empty (xs ++ ys)) ≡ true
    go true h = refl
    go false h = h

module _ (fuel : Fuel) (view : ℕ → Node) where
  pub empty_finished : (l : Line) → is_empty l ≡ true → treat_line fuel view l ≡ none
  unfolding is_empty treat_line treat_leftmost
  empty_finished (line θ []) e = refl
  empty_finished (line θ (f ∷ fs)) e = let z : ◌≡◌ {A = ℕ} 0 1 = cc in absurd (omega arith)

  pub turn_keeps_empty : (table new : List Line) → has_empty table ≡ true → turn fuel view table ≡ some new → has_empty new ≡ true
  unfolding has_empty any turn
  turn_keeps_empty [] new h d = let z : ◌≡◌ {A = ℕ} 0 1 = cc in absurd (omega arith)
  turn_keeps_empty (l ∷ ls) new h d = go (turn_keeps_empty ls) (is_empty l) refl (treat_line fuel view l) refl h d
    where
      IH : Type 0
      IH = (new : List Line) → any is_empty ls ≡ true → turn fuel view ls ≡ some new → any is_empty new ≡ true

      later : IH → (o : Option (List Line)) → turn fuel view ls ≡ o → (b : Bool) → is_empty l ≡ b → (b || any is_empty ls) ≡ true → map (l ∷◌) o ≡ some new → any is_empty new ≡ true
      later ih none x b y h d = let z : ◌≡◌ {A = ℕ} 0 1 = cc in absurd (omega arith)
      later ih (some ms) x true y h d = let z : new ≡ l ∷ ms = cc in rw (z, y, any)
      later ih (some ms) x false y h d = let z : new ≡ l ∷ ms = cc in rw (z, y, any) (ih ms h x)

      go : IH → (b : Bool) → is_empty l ≡ b → (o : Option (List Line)) → treat_line fuel view l ≡ o → (b || any is_empty ls) ≡ true
          → (elim o as (λ x. Option (List Line)) [ some ms ↦ some (ms ++ ls) | none ↦ map (l ∷◌) (turn fuel view ls) ]) ≡ some new → any is_empty new ≡ true
      go ih b y none x h d = later ih (turn fuel view ls) refl b y h d
      go ih true y (some ms) x h d = let f = empty_finished l y in let z : ◌≡◌ {A = ℕ} 0 1 = cc in absurd (omega arith)
      go ih false y (some ms) x h d = let z : new ≡ ms ++ ls = cc in rw z (empty_append ms ls h)

-- Where a table has no empty line, none before it had one.
turn_had_none : (fuel : Fuel) (view : ℕ → Node) (table new : List Line) → turn fuel view table ≡ some new → has_empty new ≡ false → has_empty table ≡ false
turn_had_none fuel view table new d h = go (has_empty table) refl
  where
    go : (b : Bool) → has_empty table ≡ b → has_empty table ≡ false
    go true e = let x = turn_keeps_empty fuel view table new e d in let z : ◌≡◌ {A = ℕ} 0 1 = cc in absurd (omega arith)
    go false e = e

module _ (fuel : Fuel) (view : ℕ → Node) (over : List Line → Option Refusal) (vars s t : ℕ) where
  pub none_before : (n : ℕ) (table : List Line) → table_after fuel view over vars s t n ≡ some table → has_empty table ≡ false → Unstopped fuel view over vars s t has_empty n
  none_before zero table c h i other p q x = absurd (omega arith)
  none_before (suc n) table c h i other p q x = go (none_before n) (before fuel view over vars s t n table c) (dec_lt n i)
    where
      IH : Type 0
      IH = (table : List Line) → table_after fuel view over vars s t n ≡ some table → has_empty table ≡ false → Unstopped fuel view over vars s t has_empty n

      go : IH → Before fuel view over vars s t n table → Dec (n < i) → has_empty other ≡ false
      go ih b (yes l) =
          let e : i ≡ suc n = omega arith in
          let y : other ≡ table = same_table fuel view over vars s t (suc n) other table (ap (table_after fuel view over vars s t) (sym e) ∙ x) c in
          ap has_empty y ∙ h
      go ih b (no l) = ih b.table b.comes (turn_had_none fuel view b.table table b.turns h) i other p (omega arith) x

module _ (e : Equation) (d : Direction) where
  abbrev source_place : ℕ
  source_place = source_position e d

  abbrev target_place : ℕ
  target_place = target_position e d

  -- The walk of `always`, and that of solve beside it.
  stopped_walk : Walked
  stopped_walk = always_walk enough (view e) source_place target_place

  always_is : always e d ≡ answer_of stopped_walk
  unfolding always stopped_walk
  always_is = refl

  beside : Beside enough (view e) over_limit has_empty stopped_walk (solve e d)
  unfolding solve walk walk_within always_walk stopped_walk
  beside = until_beside enough (view e) over_limit has_empty max_turns 0 (opening variable_count source_place target_place)

  -- "Where solve succeeds, yes means exactly that its table has such a line."
  pub record Decided (table : List Line) (n : ℕ) : Type 0 where
    pub turns : ℕ
    pub no_more : turns ≤ n
    pub answers : always e d ≡ answered (has_empty table) turns

  pub always_solved : (table : List Line) (n : ℕ) → solve e d ≡ solved table n → Decided table n
  unfolding answer_of
  always_solved table n x = go beside x always_is
    where
      end : (left taken : ℕ) (from : List Line) → has_empty from ≡ true → walk_until enough (view e) over_limit (λ table. false) left taken from ≡ solved table n
          → Ended enough (view e) (λ table. false) (λ k t. has_empty t ≡ true) table n taken (taken + left)
      end left taken from h w = walk_keeps enough (view e) over_limit (λ table. false) (λ k t. has_empty t ≡ true) (λ i old new k y z. turn_keeps_empty enough (view e) old new k y) left taken from table n h w

      go : {v w : Walked} → Beside enough (view e) over_limit has_empty v w → w ≡ solved table n → always e d ≡ answer_of v → Decided table n
      go alike x a = record { turns = n; no_more = omega arith; answers = a ∙ ap answer_of x }
      go (stops {table = from} left taken h y) x a =
          let k = end left taken from h (sym y ∙ x) in
          record { turns = taken; no_more = k.turns_from; answers = a ∙ ap (λ b. answered b taken) (h ∙ sym k.has) }

  -- A no is told when solve'from walk has ended.
  pub always_no : (turns : ℕ) → always e d ≡ answered false turns → (table : List Line) × (solve e d ≡ solved table turns) × (has_empty table ≡ false)
  unfolding answer_of
  always_no turns x = go beside (sym always_is ∙ x)
    where
      back : (w : Walked) → answer_of w ≡ answered false turns → (table : List Line) × (w ≡ solved table turns) × (has_empty table ≡ false)
      back (solved table n) x = let y : n ≡ turns = cc in let h : has_empty table ≡ false = cc in (table, ap (solved table) y, h)
      back (refused r) x = let z : ◌≡◌ {A = ℕ} 0 1 = cc in absurd (omega arith)

      go : {v w : Walked} → Beside enough (view e) over_limit has_empty v w → answer_of v ≡ answered false turns → (table : List Line) × (w ≡ solved table turns) × (has_empty table ≡ false)
      go (alike {w = w}) x = back w x
      go (stops {table = from} left taken h y) x = let k : has_empty from ≡ false = cc in let z : ◌≡◌ {A = ℕ} 0 1 = cc in absurd (omega arith)

  -- "with the same .. order of refusals": what refuses it refuses solve alike.
  pub always_refused : (r : Refusal) → always e d ≡ unanswered r → solve e d ≡ refused r
  unfolding answer_of
  always_refused r x = go beside (sym always_is ∙ x)
    where
      back : (w : Walked) → answer_of w ≡ unanswered r → w ≡ refused r
      back (solved table n) x = let z : ◌≡◌ {A = ℕ} 0 1 = cc in absurd (omega arith)
      back (refused o) x = let z : o ≡ r = cc in ap refused z

      go : {v w : Walked} → Beside enough (view e) over_limit has_empty v w → answer_of v ≡ unanswered r → w ≡ refused r
      go (alike {w = w}) x = back w x
      go (stops left taken h y) x = let z : ◌≡◌ {A = ℕ} 0 1 = cc in absurd (omega arith)

  -- "A yes already reached stands though solve would later have given 8, 9 or 10."
  pub record StandsYes (n : ℕ) : Type 0 where
    pub turns : ℕ
    pub no_more : turns ≤ n
    pub answers : always e d ≡ answered true turns

  opening_not_empty : (table : List Line) → reached e d 0 ≡ some table → has_empty table ≡ true → ⊥
  unfolding reached table_after opening has_empty any is_empty
  opening_not_empty table c p = let x : table ≡ opening variable_count source_place target_place = cc in let q = ap has_empty (sym x) ∙ p in let z : ◌≡◌ {A = ℕ} 0 1 = cc in omega arith

  pub yes_stands : (n : ℕ) (table : List Line) → n ≤ max_turns → reached e d n ≡ some table → has_empty table ≡ true → StandsYes n
  unfolding reached answer_of always_walk stopped_walk
  yes_stands zero table h c p = absurd (opening_not_empty table c p)
  yes_stands (suc n) table h c p = let b = before enough (view e) over_limit variable_count source_place target_place n table c in go b (yes_stands n b.table (omega arith) b.comes) (has_empty b.table) refl
    where
      go : (b : Before enough (view e) over_limit variable_count source_place target_place n table) → (has_empty b.table ≡ true → StandsYes n) → (y : Bool) → has_empty b.table ≡ y → StandsYes (suc n)
      go b ih true q = let k = ih q in record { turns = k.turns; no_more = omega (arith, k.no_more); answers = k.answers }
      go b ih false q =
          let w = walk_stops enough (view e) over_limit variable_count source_place target_place has_empty max_turns n table h c p (none_before enough (view e) over_limit variable_count source_place target_place n b.table b.comes q) in
          record { turns = suc n; no_more = omega arith; answers = always_is ∙ (ap answer_of w ∙ ap (λ y. answered y (suc n)) p) }

  -- "as soon as": the table after those turns has an empty line, and none before it has one.
  pub record ReachedFirst (turns : ℕ) : Type 0 where
    pub table : List Line
    pub comes : reached e d turns ≡ some table
    pub has : has_empty table ≡ true
    pub some_turn : 1 ≤ turns
    pub within : turns ≤ max_turns
    pub none_earlier : (n : ℕ) (other : List Line) → n < turns → reached e d n ≡ some other → has_empty other ≡ false

  none_sooner : (turns : ℕ) → always e d ≡ answered true turns → turns ≤ max_turns → (n : ℕ) (other : List Line) → n < turns → reached e d n ≡ some other → has_empty other ≡ false
  none_sooner turns x m n other l c = go (has_empty other) refl
    where
      go : (b : Bool) → has_empty other ≡ b → has_empty other ≡ false
      go true h = let k = yes_stands n other (omega arith) c h in let y = sym k.answers ∙ x in let z : k.turns ≡ turns = cc in absurd (omega (arith, k.no_more))
      go false h = h

  pub yes_reached : (turns : ℕ) → always e d ≡ answered true turns → ReachedFirst turns
  unfolding answer_of always_walk stopped_walk walk_within reached table_after
  yes_reached turns x = go stopped_walk refl (sym always_is ∙ x)
    where
      first_turn : (table : List Line) → reached e d turns ≡ some table → has_empty table ≡ true → (n : ℕ) → turns ≡ n → 1 ≤ turns
      first_turn table c h zero z = absurd (opening_not_empty table (ap (reached e d) (sym z) ∙ c) h)
      first_turn table c h (suc n) z = omega arith

      go : (v : Walked) → stopped_walk ≡ v → answer_of v ≡ answered true turns → ReachedFirst turns
      go (solved table n) y x' =
          let h : has_empty table ≡ true = cc in
          let z : n ≡ turns = cc in
          let k =
          walk_keeps enough (view e) over_limit has_empty (λ n table. table_after enough (view e) over_limit variable_count source_place target_place n ≡ some table)
          (λ n old new c p o. after_turn enough (view e) over_limit variable_count source_place target_place n old new c p o) max_turns 0 (opening variable_count source_place target_place) table n refl y in
          let c : reached e d turns ≡ some table = ap (reached e d) (sym z) ∙ k.has in
          let m : turns ≤ max_turns = omega (arith, k.turns_within) in
          record { table = table; comes = c; has = h; some_turn = first_turn table c h turns refl; within = m; none_earlier = none_sooner turns x m }
      go (refused r) y x' = let z : ◌≡◌ {A = ℕ} 0 1 = cc in absurd (omega arith)

  -- Where the answer is yes, the source instance exceeds the target instance at all values.
  pub always_yes : WithinLimits e → (turns : ℕ) → always e d ≡ answered true turns → (ρ : Values) → inst ρ (source e d) ≻ inst ρ (target e d)
  unfolding answer_of always_walk stopped_walk value
  always_yes w turns x ρ = rw (source_at e d, target_at e d) at (go stopped_walk refl (sym always_is ∙ x))
    where
      go : (v : Walked) → stopped_walk ≡ v → answer_of v ≡ answered true turns → value e ρ source_place ≻ value e ρ target_place
      go (solved table n) y x =
          let h : has_empty table ≡ true = cc in
          (walk_exact (layout e w) (enough_suffices (positions_few w)) source_place target_place (source_within e d) (target_within e d) has_empty (model e ρ) table n y).1 (empty_holds ρ (value e ρ) table h)
      go (refused r) y x = let z : ◌≡◌ {A = ℕ} 0 1 = cc in absurd (omega arith)
