-- The occurs test that looks through each variable once finds what occurs.
use Prim.Native.Nat.{ℕ, ◌+◌, ◌-◌, ◌≤◌, ◌<◌}
use mathlib.Core.Path.{◌≡◌, refl, sym, ap, ◌∙◌}
use mathlib.Core.Bool.{Bool, true, false}
use mathlib.Core.Option.{none, some}
use mathlib.Core.List.{List}
use mathlib.Core.Logic.{◌⊎◌, inl, inr, ⊎_elim}
use lib.ListN.{length, get_or, get_or-eq_default}
use native.Mathlib.Omega.{arith}
use native.Mathlib.Decide.{dec_lt}
use Rattle.format.specs.Limits.{first_variable, variable_count, no_position}
use Rattle.terms.specs.Position.{var_node}
use Rattle.solving.specs.Line.{Bindings, lookup}
use Rattle.solving.specs.Walk.{enough, occurs}
use Rattle.solving.specs.Theory.Seen.{bound_variable, variable_bound, occurs_up, occurs_back}
use Rattle.solving.specs.ForContracts.Seen.{Reaches, stays, goes, Occurs, here, inside}
use Rattle.solving.proofs.Theory.Reach.{enough_suffices, occurs_found, occurs_finds}
use Rattle.bindings.specs.ForContracts.PrefixForm.{view_of, InPrefixForm}
use Rattle.bindings.specs.ForContracts.Bindings.{bindings_of, Readable}
use Rattle.bindings.specs.Theory.PrefixForm.{get_or_any, variable_seen, seen_variable, form_layout}
use Rattle.bindings.specs.Theory.Bindings.{bound_byte, free_byte, lookup_byte, length_bindings, bound_there}
use Rattle.bindings.proofs.Within.{Part, whole, inside as within, size_pos, part_at, part_start, part_end, part_argument}
use Rattle.bindings.specs.ForContracts.Sets.{Has, Singleton, Joined, Within, OccursAmong, HasVariables}
use Rattle.bindings.specs.Theory.Sets.{none_has}

-- A binding and its byte.
bound_lookup : (bs : List ℕ) (w q : ℕ) → lookup (bindings_of bs) w ≡ some q → (get_or bs w 0 < no_position) × (get_or bs w 0 ≡ q)
bound_lookup bs w q e = go (dec_lt (get_or bs w no_position) no_position) (dec_lt w (length bs))
  where
    go : Dec (get_or bs w no_position < no_position) → Dec (w < length bs) → (get_or bs w 0 < no_position) × (get_or bs w 0 ≡ q)
    go (yes h) (yes l) =
        let x = lookup_byte bs w ∙ bound_byte (get_or bs w no_position) h in
        let y : get_or bs w no_position ≡ q = cc in
        (omega (arith, get_or_any bs w no_position 0 l), omega (arith, get_or_any bs w no_position 0 l))
    go (yes h) (no l) = let z : get_or bs w no_position ≡ no_position = get_or-eq_default bs no_position (omega arith) in absurd (omega arith)
    go (no h) d = let x = lookup_byte bs w ∙ free_byte (get_or bs w no_position) (omega arith) in let z : ◌≡◌ {A = ℕ} 0 1 = cc in absurd (omega arith)

-- The term at `q` was looked through: it is the first, or a variable that was looked through is bound to it.
pub data Visited (bs : List ℕ) (p through q : ℕ) : Type 0 where
  first : q ≡ p → Visited bs p through q
  bound : (w : ℕ) → Has through w → get_or bs w 0 < no_position → get_or bs w 0 ≡ q → Visited bs p through q

-- The free variable `v` is looked for.
pub record Sought (nodes sizes variables bs : List ℕ) (v : ℕ) : Type 0 where
  pub readable : Readable nodes sizes bs
  pub sets : HasVariables nodes sizes variables
  pub free : lookup (bindings_of bs) v ≡ none

abbrev OccursAt : (nodes sizes bs : List ℕ) → ℕ → ℕ → Type 0
OccursAt nodes sizes bs v q = Occurs (view_of nodes sizes) (bindings_of bs) v q

-- A variable is seen in the term at `p`, through the bindings.
pub record Seen (nodes sizes bs : List ℕ) (v p w : ℕ) : Type 0 where
  pub low : w < variable_count
  pub leads : get_or bs w 0 < no_position → OccursAt nodes sizes bs v (get_or bs w 0) → OccursAt nodes sizes bs v p
  pub itself : w ≡ v → OccursAt nodes sizes bs v p

-- The variables that were seen in the term at `p`, and those of them that were looked through, which `v` is not among.
pub record Search (nodes sizes variables bs : List ℕ) (v p seen through : ℕ) : Type 0 where
  pub within : Within through seen
  pub each : (w : ℕ) → Has seen w → Seen nodes sizes bs v p w
  pub other : Has through v → ⊥
  pub closed : (q : ℕ) → Visited bs p through q → Within (get_or variables q 0) seen

-- Occurrence passes up to the whole term.
part_up : {nodes sizes : List ℕ} {θ : Bindings} {v i q : ℕ} → Part nodes sizes i q → Occurs (view_of nodes sizes) θ v i → Occurs (view_of nodes sizes) θ v q
part_up whole o = o
part_up (within e j d) o = occurs_up e j (part_up d o)

-- A variable's byte among the positions of a term.
stands_seen : {nodes sizes : List ℕ} {q w : ℕ} → InPrefixForm nodes sizes → q < length nodes → (s : OccursAmong nodes q (q + get_or sizes q 0) w)
    → (w < variable_count) × (view_of nodes sizes s.position ≡ var_node w) × Part nodes sizes s.position q
stands_seen {nodes} {sizes} {q} {w} laid l s =
    let m : s.position < length nodes = omega (arith, laid.ends_within q l, s.ahead) in
    let e : get_or nodes s.position first_variable ≡ first_variable + w = get_or_any nodes s.position first_variable 0 m ∙ s.byte in
    let x : get_or nodes s.position first_variable - first_variable ≡ w = omega arith in
    (omega (arith, laid.variable_low s.position m (omega arith)), variable_seen nodes sizes s.position (omega arith) ∙ ap var_node x, part_at laid q s.position l s.behind s.ahead)

seen_stands : {nodes sizes : List ℕ} {i q w : ℕ} → InPrefixForm nodes sizes → i < length nodes → Part nodes sizes i q → view_of nodes sizes i ≡ var_node w → OccursAmong nodes q (q + get_or sizes q 0) w
seen_stands {nodes} {sizes} {i} {q} {w} laid l d e = record {
  position = i;
  behind = part_start laid d;
  ahead = omega (arith, part_end laid d, size_pos laid i l);
  byte = get_or_any nodes i 0 first_variable l ∙ (seen_variable laid i w e).0;
}

module _ {nodes sizes variables bs : List ℕ} {v : ℕ} (g : Sought nodes sizes variables bs v) where
  laid : InPrefixForm nodes sizes
  laid = g.readable.laid

  pub slots : length bs ≡ variable_count
  slots = sym (length_bindings bs) ∙ g.readable.proper.slots

  -- What stands in a term that is seen in the term at `p` is seen there.
  stands_in : {p q w : ℕ} → q < length nodes → (OccursAt nodes sizes bs v q → OccursAt nodes sizes bs v p) → Has (get_or variables q 0) w → Seen nodes sizes bs v p w
  stands_in {p} {q} {w} l up h =
      let (a, e, d) = stands_seen laid l ((g.sets.each q (omega arith) l).stands w h) in
      record {
        low = a;
        leads = λ b o. up (part_up d (occurs_back (variable_bound (bindings_of bs) e ∙ bound_there bs w (omega (arith, slots)) b) o));
        itself = λ i. up (part_up d (here (stays (variable_bound (bindings_of bs) e ∙ ap (lookup (bindings_of bs)) i ∙ g.free)) (e ∙ ap var_node i)));
      }

  module _ {p : ℕ} (l : p < length nodes) where
    pub search_start : Search nodes sizes variables bs v p (get_or variables p 0) 0
    search_start = record {
      within = record { each = λ w h. absurd (none_has w h) };
      each = λ w h. stands_in l (λ o. o) h;
      other = none_has v;
      closed = start;
    }
      where
        start : (q : ℕ) → Visited bs p 0 q → Within (get_or variables q 0) (get_or variables p 0)
        start q (first e) = rw e (record { each = λ w h. h })
        start q (bound w h b e) = absurd (none_has w h)

    module _ {seen through : ℕ} (k : Search nodes sizes variables bs v p seen through) where
      -- The term that a variable is bound to.
      pub bound_within : {w : ℕ} → Has seen w → get_or bs w 0 < no_position → get_or bs w 0 < length nodes
      bound_within {w} h b = g.readable.proper.within w (get_or bs w 0) (bound_there bs w (omega (arith, slots, (k.each w h).low)) b)

      -- A variable more is looked through. What its term has is seen now, if it has one.
      search_next : {w one more now : ℕ} → Has seen w → (w ≡ v → ⊥) → Singleton w one → Joined through one more → Within seen now
          → ((u : ℕ) → Has now u → Has seen u ⊎ ((get_or bs w 0 < no_position) × Has (get_or variables (get_or bs w 0) 0) u))
          → (get_or bs w 0 < no_position → Within (get_or variables (get_or bs w 0) 0) now)
          → Search nodes sizes variables bs v p now more
      search_next {w} {one} {more} {now} h n s j up new own = record {
        within = record { each = λ u x. ⊎_elim (λ y. up.each u (k.within.each u y)) (λ y. up.each u (rw (s.alone u y) h)) (j.either u x) };
        each = λ u x. ⊎_elim (λ y. k.each u y) (λ y. behind u y.0 y.1) (new u x);
        other = λ x. ⊎_elim k.other (λ y. n (sym (s.alone v y))) (j.either v x);
        closed = closed;
      }
        where
          behind : (u : ℕ) → get_or bs w 0 < no_position → Has (get_or variables (get_or bs w 0) 0) u → Seen nodes sizes bs v p u
          behind u b x = stands_in (bound_within h b) ((k.each w h).leads b) x

          risen : {q : ℕ} → Visited bs p through q → Within (get_or variables q 0) now
          risen {q} x = record { each = λ u y. up.each u ((k.closed q x).each u y) }

          closed : (q : ℕ) → Visited bs p more q → Within (get_or variables q 0) now
          closed q (first e) = risen (first e)
          closed q (bound u x b e) =
              ⊎_elim (λ y. risen (bound u y b e)) (λ y. let i = s.alone u y in rw (← e, i) (own (rw i at b))) (j.either u x)

      module _ {w one more : ℕ} (h : Has seen w) (n : w ≡ v → ⊥) (s : Singleton w one) (j : Joined through one more) where
        pub search_free : no_position ≤ get_or bs w 0 → Search nodes sizes variables bs v p seen more
        search_free b = search_next h n s j (record { each = λ u x. x }) (λ u x. inl x) (λ x. absurd (omega arith))

        pub search_bound : {now : ℕ} → get_or bs w 0 < no_position → Joined seen (get_or variables (get_or bs w 0) 0) now → Search nodes sizes variables bs v p now more
        search_bound b i = search_next h n s j (record { each = i.left }) (λ u x. ⊎_elim inl (λ y. inr (b, y)) (i.either u x)) (λ x. record { each = i.right })

      search_found : {w : ℕ} → Has seen w → w ≡ v → OccursAt nodes sizes bs v p
      search_found {w} h e = (k.each w h).itself e

      -- Where all that was seen was looked through, `v` does not occur.
      module _ (all : seen ≡ through) where
        -- A position in a term that was looked through.
        record Inside (i : ℕ) : Type 0 where
          root : ℕ
          visited : Visited bs p through root
          part : Part nodes sizes i root
          inner : i < length nodes

        stands_through : {i w : ℕ} (x : Inside i) → view_of nodes sizes i ≡ var_node w → Has through w
        stands_through {i} {w} x e =
            let h = (g.sets.each x.root (omega arith) (omega (arith, part_start laid x.part, x.inner))).has w (seen_stands laid x.inner x.part e) in
            rw all at ((k.closed x.root x.visited).each w h)

        reaches_inside : {i r : ℕ} → Reaches (view_of nodes sizes) (bindings_of bs) i r → Inside i → Inside r
        reaches_inside (stays e) x = x
        reaches_inside (goes {p = i} {q = q} e c) x =
            let (w, d, y) = bound_variable (bindings_of bs) (view_of nodes sizes i) q e in
            let (b, z) = bound_lookup bs w q y in
            reaches_inside c (record { root = q; visited = bound w (stands_through x d) b z; part = whole; inner = g.readable.proper.within w q y })

        nowhere : {i : ℕ} → Inside i → OccursAt nodes sizes bs v i → ⊥
        nowhere x (here c e) = k.other (stands_through (reaches_inside c x) e)
        nowhere x (inside {r = r} {f = f} {c = c} {ps = ps} a e j o) =
            let y = reaches_inside a x in
            nowhere (record { root = y.root; visited = y.visited; part = part_argument y.part e j; inner = (form_layout laid).argument_within r f c ps e j }) o

        search_nowhere : OccursAt nodes sizes bs v p → ⊥
        search_nowhere o = nowhere (record { root = p; visited = first refl; part = whole; inner = l }) o

-- What the search says is what the walk's own test says.
module _ {nodes sizes variables bs : List ℕ} {v p seen through : ℕ} (g : Sought nodes sizes variables bs v) (l : p < length nodes) (k : Search nodes sizes variables bs v p seen through) where
  pub search_true : {w : ℕ} → Has seen w → w ≡ v → true ≡ occurs enough (view_of nodes sizes) enough.occurs_depth (bindings_of bs) v p
  search_true h e = sym (occurs_finds (form_layout (laid g)) (enough_suffices (laid g).few) g.readable.proper (search_found g l k h e))

  pub search_false : seen ≡ through → false ≡ occurs enough (view_of nodes sizes) enough.occurs_depth (bindings_of bs) v p
  search_false a = go (occurs enough (view_of nodes sizes) enough.occurs_depth (bindings_of bs) v p) refl
    where
      go : (b : Bool) → occurs enough (view_of nodes sizes) enough.occurs_depth (bindings_of bs) v p ≡ b → false ≡ b
      go true e = absurd (search_nowhere g l k a (occurs_found (form_layout (laid g)) (enough_suffices (laid g).few) g.readable.proper enough.occurs_depth v p e))
      go false e = refl

-- The same, from what the test is lent.
pub lent_true : {nodes sizes variables bs : List ℕ} {v p seen through w : ℕ} → Readable nodes sizes bs → HasVariables nodes sizes variables → lookup (bindings_of bs) v ≡ none → p < length nodes
    → Search nodes sizes variables bs v p seen through → Has seen w → w ≡ v → true ≡ occurs enough (view_of nodes sizes) enough.occurs_depth (bindings_of bs) v p
lent_true readable sets free l k h e = search_true (record { readable = readable; sets = sets; free = free }) l k h e
