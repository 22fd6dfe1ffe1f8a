-- Following the bindings as bytes.
use Prim.Native.Nat.{ℕ, zero, suc, ◌-◌, ◌≤◌, ◌<◌}
use mathlib.Core.Path.{◌≡◌, refl, sym, ap, ◌∙◌}
use mathlib.Core.Option.{none, some}
use mathlib.Core.List.{List}
use lib.ListN.{length, get_or}
use native.Mathlib.Omega.{arith}
use Rattle.format.specs.Limits.{first_variable, variable_count, no_position}
use Rattle.terms.specs.Position.{Node}
use Rattle.solving.specs.Line.{Bindings, lookup}
use Rattle.solving.specs.Walk.{enough, bound_to, follow, reach}
use Rattle.solving.specs.Theory.Seen.{symbol_unbound, variable_bound}
use Rattle.bindings.specs.ForContracts.PrefixForm.{view_of}
use Rattle.bindings.specs.ForContracts.Bindings.{bindings_of, Readable}
use Rattle.bindings.specs.Theory.PrefixForm.{byte_there, symbol_there, variable_there}
use Rattle.bindings.specs.Theory.Bindings.{bound_there, free_there, length_bindings}

-- The walk has come to `at`, with `hops` left.
pub record Following (nodes sizes bindings : List ℕ) (p at hops : ℕ) : Type 0 where
  pub within : at < length nodes
  pub few : hops ≤ variable_count
  pub leads : follow enough (view_of nodes sizes) hops (bindings_of bindings) at ≡ reach enough (view_of nodes sizes) (bindings_of bindings) p

module _ (view : ℕ → Node) (θ : Bindings) where
  follow_stays : (k p : ℕ) → bound_to θ (view p) ≡ none → follow enough view k θ p ≡ p
  unfolding follow
  follow_stays zero p e = refl
  follow_stays (suc k) p e = rw (e, follow)

  follow_goes : (k p q : ℕ) → bound_to θ (view p) ≡ some q → follow enough view (suc k) θ p ≡ follow enough view k θ q
  unfolding follow
  follow_goes k p q e = rw (e, follow)

module _ {nodes sizes bindings : List ℕ} where
  pub following_start : {p : ℕ} → p < length nodes → Following nodes sizes bindings p p variable_count
  unfolding reach
  following_start h = record { within = h; few = omega arith; leads = refl }

  -- A variable that stands at a position has its slot.
  pub slot_there : {at : ℕ} → Readable nodes sizes bindings → at < length nodes → first_variable ≤ get_or nodes at 0
      → get_or nodes at 0 - first_variable < length bindings
  slot_there {at} r l h = let e = byte_there nodes sizes at l in omega (arith, r.laid.variable_low at l (omega arith), length_bindings bindings, r.proper.slots)

  module _ {p at hops : ℕ} where
    pub reached_symbol : Following nodes sizes bindings p at hops → get_or nodes at 0 < first_variable → at ≡ reach enough (view_of nodes sizes) (bindings_of bindings) p
    reached_symbol f h = sym (follow_stays (view_of nodes sizes) (bindings_of bindings) hops at (symbol_unbound (bindings_of bindings) (symbol_there nodes sizes at f.within h))) ∙ f.leads

    pub reached_free : (v : ℕ) → Following nodes sizes bindings p at hops → first_variable ≤ get_or nodes at 0 → v ≡ get_or nodes at 0 - first_variable → v < length bindings
        → get_or bindings v 0 ≡ no_position → at ≡ reach enough (view_of nodes sizes) (bindings_of bindings) p
    reached_free v f h e s l = sym (follow_stays (view_of nodes sizes) (bindings_of bindings) hops at (variable_bound (bindings_of bindings) (variable_there nodes sizes at v f.within h e) ∙ free_there bindings v s l)) ∙ f.leads

  pub following_on : {p at hops : ℕ} (v q rest : ℕ) → Readable nodes sizes bindings → Following nodes sizes bindings p at hops → suc rest ≡ hops → first_variable ≤ get_or nodes at 0
      → v ≡ get_or nodes at 0 - first_variable → v < length bindings → q ≡ get_or bindings v 0 → q < no_position → Following nodes sizes bindings p q rest
  following_on {at = at} v q rest r f k h e s x l =
      let d : lookup (bindings_of bindings) v ≡ some q = rw x (bound_there bindings v s (omega arith)) in
      record {
        within = r.proper.within v q d;
        few = omega (arith, f.few);
        leads = sym (follow_goes (view_of nodes sizes) (bindings_of bindings) rest at q (variable_bound (bindings_of bindings) (variable_there nodes sizes at v f.within h e) ∙ d))
            ∙ (ap (λ i. follow enough (view_of nodes sizes) i (bindings_of bindings) at) k ∙ f.leads);
      }

  pub reached_end : {p at hops : ℕ} → Following nodes sizes bindings p at hops → hops ≤ 0 → at ≡ reach enough (view_of nodes sizes) (bindings_of bindings) p
  unfolding follow
  reached_end {hops = zero} f h = f.leads
  reached_end {hops = suc hops} f h = absurd (omega arith)
