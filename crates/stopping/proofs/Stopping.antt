-- The walk from turn to turn, until it ends, is refused, or an empty line stops it.
use Prim.Native.Nat.{ℕ, zero, suc, ◌+◌, ◌-◌, ◌*◌, ◌≤◌, ◌<◌}
use mathlib.Core.Path.{◌≡◌, refl, sym, ap, ◌∙◌}
use mathlib.Core.Bool.{Bool, true, false}
use mathlib.Core.Option.{some}
use mathlib.Core.List.{List, [], ◌∷◌, ◌++◌, map}
use lib.ListN.{length, take}
use native.Mathlib.Omega.{arith}
use Rattle.format.specs.Limits.{variable_count, max_lines, max_turns}
use Rattle.format.specs.Lists.{any}
use Rattle.solving.specs.Line.{Line}
use Rattle.solving.specs.Walk.{enough, solved, over_limit}
use Rattle.solving.specs.Turns.{table_after}
use Rattle.solving.specs.Always.{is_empty, has_empty}
use Rattle.solving.specs.Theory.Turns.{until_ends, same_table, Unstopped, walk_goes_on, walk_stops}
use Rattle.solving.proofs.Theory.Always.{none_before}
use Rattle.bindings.specs.ForContracts.PrefixForm.{view_of}
use Rattle.line_bytes.specs.ForContracts.Resting.{RestingLine, line_of}
use Rattle.line_bytes.specs.ForContracts.Layout.{line_bytes}
use Rattle.walking.specs.declared.walk.Walk.{Walk}
use Rattle.std.specs.Prelude.{Ok, Err}
use Rattle.format.specs.declared.refusal.Refusal.{Refusal}
use Rattle.walking.specs.ForContracts.Walking.{Walking, left_to_do, GoesOn, Advances}
use Rattle.walking.specs.Theory.Walking.{ended}
use Rattle.stopping.specs.ForContracts.Empty.{AnyEmpty}
use Rattle.stopping.specs.ForContracts.Ends.{stop_test, stopping_walk, NoneEmpty, WalkEnds}
use Rattle.stopping.specs.Theory.Stopping.{none_at_first}

-- The walk under way: nothing has stopped it so far.
pub record Underway (nodes sizes memory : List ℕ) (stops : Bool) (w v : Walk) : Type 0 where
  pub walking : Walking nodes sizes memory v
  pub none_empty : stops ≡ true → NoneEmpty nodes sizes v
  pub same_source : v.source ≡ w.source
  pub same_target : v.target ≡ w.target

pub underway_start : {nodes sizes memory : List ℕ} {stops : Bool} (w : Walk) → Walking nodes sizes memory w → (stops ≡ true → NoneEmpty nodes sizes w) → Underway nodes sizes memory stops w w
underway_start w k n = record { walking = k; none_empty = n; same_source = refl; same_target = refl }

-- Among no lines none is empty.
none_left : (ls : List RestingLine) (k : ℕ) → length ls ≡ 0 → any is_empty (map line_of (take k ls)) ≡ true → ⊥
unfolding any
none_left [] zero e h = let z : ◌≡◌ {A = ℕ} 0 1 = cc in omega arith
none_left [] (suc k) e h = let z : ◌≡◌ {A = ℕ} 0 1 = cc in omega arith
none_left (l ∷ ls) k e h = omega arith

module _ {nodes sizes memory : List ℕ} {stops : Bool} {w v : Walk} (u : Underway nodes sizes memory stops w v) where
  abbrev own_table : List Line
  own_table = u.walking.finished ++ map line_of u.walking.unfinished

  unstopped : Unstopped enough (view_of nodes sizes) over_limit variable_count v.source v.target (stop_test stops) v.turns
  unfolding stop_test
  unstopped = go stops u.none_empty
    where
      go : (b : Bool) → (b ≡ true → NoneEmpty nodes sizes v) → Unstopped enough (view_of nodes sizes) over_limit variable_count v.source v.target (stop_test b) v.turns
      go true n = none_before enough (view_of nodes sizes) over_limit variable_count v.source v.target v.turns own_table u.walking.comes (n refl own_table u.walking.comes)
      go false n = λ i table p q x. refl

  same_walk : stopping_walk stops nodes sizes v.source v.target ≡ stopping_walk stops nodes sizes w.source w.target
  same_walk = rw (u.same_source, u.same_target)

  -- It is refused.
  pub underway_refused : {memory' : List ℕ} (r : Refusal) → Advances nodes sizes memory' v (Err r) → WalkEnds nodes sizes memory' stops w.source w.target (Err r)
  underway_refused r s = record {
    end = sym same_walk
        ∙ (sym (walk_goes_on enough (view_of nodes sizes) over_limit variable_count v.source v.target (stop_test stops) max_turns v.turns own_table u.walking.turns_within u.walking.comes unstopped)
        ∙ s.outcome own_table u.walking.comes (stop_test stops));
  }

  -- It has ended.
  pub underway_ends : max_lines ≤ v.top → WalkEnds nodes sizes memory stops w.source w.target (Ok v)
  underway_ends h =
      let end = ended nodes sizes memory v u.walking h in
      let same : own_table ≡ u.walking.finished = same_table enough (view_of nodes sizes) over_limit variable_count v.source v.target v.turns own_table u.walking.finished u.walking.comes end.comes in
      record {
        end = record {
          walking = u.walking;
          walked =
              sym same_walk
              ∙ (sym (walk_goes_on enough (view_of nodes sizes) over_limit variable_count v.source v.target (stop_test stops) max_turns v.turns u.walking.finished u.walking.turns_within end.comes unstopped)
              ∙ (until_ends enough (view_of nodes sizes) over_limit (stop_test stops) v.turns u.walking.finished (max_turns - v.turns) end.no_turn
              ∙ ap (λ t. solved t v.turns) (sym same)));
          stopped = λ l. absurd (omega arith);
          not_stopped = λ l s. u.none_empty s own_table u.walking.comes;
        };
      }

  module _ {memory' : List ℕ} (n : Walk) (s : Advances nodes sizes memory' v (Ok n)) where
    g : GoesOn nodes sizes memory' v n
    g = s.outcome

    pub going_falls : left_to_do n < left_to_do v
    going_falls = g.further.falls

    pub places_within : v.top < max_lines → (v.top + 1) * line_bytes ≤ length memory'
    places_within h = omega (arith, g.walking.holds.length_is)

    abbrev new_table : List Line
    new_table = g.walking.finished ++ map line_of g.walking.unfinished

    goes_under : (stops ≡ true → NoneEmpty nodes sizes n) → Underway nodes sizes memory' stops w n
    goes_under f = record {
      walking = g.walking;
      none_empty = f;
      same_source = g.further.same_source ∙ u.same_source;
      same_target = g.further.same_target ∙ u.same_target;
    }

    -- Nothing stops it.
    pub underway_on : stops ≡ false → Underway nodes sizes memory' stops w n
    underway_on f = goes_under (λ t. let z : ◌≡◌ {A = ℕ} 0 1 = cc in absurd (omega arith))

    module _ (on : stops ≡ true) where
      -- Only the new lines are looked at.
      looked_over : {r : Bool} → AnyEmpty memory' n.top (v.top + 1) r → has_empty new_table ≡ r
      unfolding has_empty
      looked_over t = g.only_new is_empty (u.none_empty on) ∙ t.tells nodes sizes g.walking.unfinished g.walking.holds.all_well_formed g.walking.holds.lines_are

      -- None is empty: on.
      pub underway_past : {r : Bool} → AnyEmpty memory' n.top (v.top + 1) r → r ≡ false → Underway nodes sizes memory' stops w n
      underway_past t f = goes_under (λ x table c. ap has_empty (same_table enough (view_of nodes sizes) over_limit variable_count n.source n.target n.turns table new_table c g.walking.comes) ∙ (looked_over t ∙ f))

      -- One is: the walk stops, with the turns taken by then.
      new_reached : table_after enough (view_of nodes sizes) over_limit variable_count v.source v.target n.turns ≡ some new_table
      new_reached =
          let after = table_after enough (view_of nodes sizes) over_limit variable_count in
          sym (ap (λ s. after s n.target n.turns) g.further.same_source ∙ ap (λ t. after v.source t n.turns) g.further.same_target) ∙ g.walking.comes

      stops_there : has_empty new_table ≡ true → stopping_walk stops nodes sizes v.source v.target ≡ solved new_table n.turns
      unfolding stop_test
      stops_there h = go n.turns refl
        where
          go : (k : ℕ) → n.turns ≡ k → stopping_walk stops nodes sizes v.source v.target ≡ solved new_table n.turns
          go zero z = let a = none_at_first nodes sizes n z new_table g.walking.comes in let y : ◌≡◌ {A = ℕ} 0 1 = cc in absurd (omega arith)
          go (suc m) z =
              let c = ap (table_after enough (view_of nodes sizes) over_limit variable_count v.source v.target) (sym z) ∙ new_reached in
              let o = g.further.one_turn in
              walk_stops enough (view_of nodes sizes) over_limit variable_count v.source v.target (stop_test stops) max_turns m new_table (omega (arith, g.walking.turns_within)) c
              (ap (λ b. stop_test b new_table) on ∙ h) (λ i table p q y. unstopped i table p (omega arith) y)
              ∙ ap (solved new_table) (sym z)

      pub underway_stops : {r : Bool} → AnyEmpty memory' n.top (v.top + 1) r → r ≡ true → WalkEnds nodes sizes memory' stops w.source w.target (Ok n)
      underway_stops t f =
          let h = looked_over t ∙ f in
          record {
            end = record {
              walking = g.walking;
              walked = sym same_walk ∙ stops_there h;
              stopped = λ l. (on, h);
              not_stopped = λ l x. absurd (none_left g.walking.unfinished (v.top + 1 - n.top) (omega (arith, g.walking.holds.top_is))
                  (t.tells nodes sizes g.walking.unfinished g.walking.holds.all_well_formed g.walking.holds.lines_are ∙ f));
            };
          }
