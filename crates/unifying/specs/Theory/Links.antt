-- The laws of links: what they lead to is the same term, more bindings keep them, and where they meet nothing is left to unify.
use Rattle.std.specs.Prelude.{ℕ, ◌<◌, ◌≡◌, List, length, get_or, set, replicate}
use Rattle.std.proofs.Common.{sym, subst, ◌∙◌, length-set, get_or-set_same, get_or-set_other, arith}
use Rattle.std.proofs.lemmas.List.{length-replicate, get_or-replicate}
use Rattle.std.proofs.Math.Decide.{ℕ_discrete}
use Rattle.format.specs.Limits.{position_count, no_position}
use Rattle.solving.specs.Walk.{enough, reach}
use Rattle.solving.specs.ForContracts.Seen.{Reaches, stays}
use Rattle.solving.specs.ForContracts.Unified.{Unified as Unification}
use Rattle.solving.specs.Theory.Seen.{reaches_unbound}
use Rattle.solving.proofs.Theory.Unified.{Extends, unified_extends}
use Rattle.std.specs.Prelude.{Some}
use Rattle.bindings.specs.ForContracts.PrefixForm.{view_of}
use Rattle.bindings.specs.ForContracts.Bindings.{bindings_of, Readable}
use Rattle.unifying.specs.ForContracts.Unify.{UnifiesTo}
use Rattle.unifying.specs.ForContracts.Links.{Same, one_position, Leads, Followed, Linked}
use Rattle.unifying.specs.ForContracts.Links as links_contracts
use Rattle.unifying.specs.Theory.Unify.{at_reached, not_failed}
use Rattle.unifying.specs.Theory.Same.{same_sym, same_trans, same_later, unified_same, same_unifies}

-- No position is linked at first.
pub linked_start : (nodes sizes bs : List ℕ) → Linked nodes sizes bs (replicate position_count no_position)
linked_start nodes sizes bs = record {
  each_position = length-replicate position_count no_position;
  same = λ p i l. absurd (omega (arith, get_or-replicate position_count p no_position 0 (omega (arith, i, length-replicate position_count no_position))));
}

module _ {nodes sizes bs : List ℕ} (read : Readable nodes sizes bs) where
  pub linked_followed : {links : List ℕ} → Linked nodes sizes bs links → Followed links
  linked_followed k = record { each_position = k.each_position; within = λ p i l. omega (arith, (k.same p i l).0, read.laid.few) }

  pub leads_same : {links : List ℕ} {p r : ℕ} → Linked nodes sizes bs links → p < length nodes → Leads links p r → (r < length nodes) × Same (view_of nodes sizes) (bindings_of bs) p r
  leads_same {p = p} k i links_contracts.stays = (i, one_position (at_reached read p) (at_reached read p))
  leads_same {links} k i (links_contracts.goes {q = q} a e l) =
      let (j, s) = leads_same k i a in
      let (m, t) = k.same q (omega (arith, j, read.laid.few, k.each_position)) (rw e at l) in
      (rw e m, same_trans s (rw e t))

  -- A position and the one that it reaches.
  reached_same : (p s : ℕ) → s ≡ reach enough (view_of nodes sizes) (bindings_of bs) p → Same (view_of nodes sizes) (bindings_of bs) p s
  reached_same p s e =
      let k = subst (Reaches (view_of nodes sizes) (bindings_of bs) p) (sym e) (at_reached read p) in
      one_position k (stays (reaches_unbound k))

  -- Where links meet, nothing is left to unify.
  pub links_meet : {links : List ℕ} {p q s t a b : ℕ} (depth : ℕ) → Linked nodes sizes bs links → s < length nodes → t < length nodes
      → s ≡ reach enough (view_of nodes sizes) (bindings_of bs) p → t ≡ reach enough (view_of nodes sizes) (bindings_of bs) q → Leads links s a → Leads links t b → a ≡ b
      → UnifiesTo nodes sizes depth (bindings_of bs) p q (Some tt) (bindings_of bs)
  links_meet {p = p} {q = q} {s = s} {t = t} depth k i j x y c d e = record {
    found = λ z. same_unifies read (same_trans (reached_same p s x) (same_trans (leads_same k i c).1 (rw e (same_trans (same_sym (leads_same k j d).1) (same_sym (reached_same q t y))))));
    none_found = λ z. not_failed z;
  }

  module _ {bs' : List ℕ} (read' : Readable nodes sizes bs') where
    later : {p q : ℕ} → Extends (bindings_of bs) (bindings_of bs') → Same (view_of nodes sizes) (bindings_of bs) p q → Same (view_of nodes sizes) (bindings_of bs') p q
    later x e = same_later (reach enough (view_of nodes sizes) (bindings_of bs')) (at_reached read') x e

    pub linked_later : {links : List ℕ} {p q : ℕ} → Linked nodes sizes bs links → Unification (view_of nodes sizes) (bindings_of bs) p q (bindings_of bs') → Linked nodes sizes bs' links
    linked_later k u = record {
      each_position = k.each_position;
      same = λ p i l. ((k.same p i l).0, later (unified_extends u) (k.same p i l).1);
    }

    -- What the links of two unified terms led to is the same.
    pub unified_links : {links : List ℕ} {p q s t a b : ℕ} → Linked nodes sizes bs links → s < length nodes → t < length nodes
        → s ≡ reach enough (view_of nodes sizes) (bindings_of bs) p → t ≡ reach enough (view_of nodes sizes) (bindings_of bs) q → Leads links s a → Leads links t b
        → Unification (view_of nodes sizes) (bindings_of bs) p q (bindings_of bs')
        → Same (view_of nodes sizes) (bindings_of bs') s b × Same (view_of nodes sizes) (bindings_of bs') a b
    unified_links {p = p} {q = q} {s = s} {t = t} {a = a} {b = b} k i j x y c d u =
        let e = unified_extends u in
        let pq : Same (view_of nodes sizes) (bindings_of bs') p q = unified_same (reach enough (view_of nodes sizes) (bindings_of bs')) (at_reached read') e (record { stay = λ v r h. h }) u in
        let ps : Same (view_of nodes sizes) (bindings_of bs') p s = later e (reached_same p s x) in
        let qt : Same (view_of nodes sizes) (bindings_of bs') q t = later e (reached_same q t y) in
        let sa : Same (view_of nodes sizes) (bindings_of bs') s a = later e (leads_same k i c).1 in
        let tb : Same (view_of nodes sizes) (bindings_of bs') t b = later e (leads_same k j d).1 in
        let sb : Same (view_of nodes sizes) (bindings_of bs') s b = same_trans (same_sym ps) (same_trans pq (same_trans qt tb)) in
        (sb, same_trans (same_sym sa) sb)

  -- A new link.
  pub linked_put : {links : List ℕ} {a b : ℕ} → Linked nodes sizes bs links → a < length links → b < length nodes → Same (view_of nodes sizes) (bindings_of bs) a b → Linked nodes sizes bs (set links a b)
  linked_put {links} {a} {b} k i j e = record {
    each_position = length-set links a b ∙ k.each_position;
    same = λ p x l. go p (omega (arith, x, length-set links a b)) l (ℕ_discrete p a);
  }
    where
      go : (p : ℕ) → p < length links → get_or (set links a b) p 0 < no_position → Dec (p ≡ a) → (get_or (set links a b) p 0 < length nodes) × Same (view_of nodes sizes) (bindings_of bs) p (get_or (set links a b) p 0)
      go p x l (yes h) = rw (h, get_or-set_same links a b 0 i) (j, e)
      go p x l (no n) = let d = get_or-set_other links a p b 0 n in rw d (k.same p x (rw d at l))

-- Two terms that were unified, both linked to where the links of the second one led.
pub linked_both : {nodes sizes bs bs' links links' : List ℕ} {p q s t a b : ℕ} (read : Readable nodes sizes bs) → Readable nodes sizes bs' → Linked nodes sizes bs links → Linked nodes sizes bs' links'
    → s < length nodes → t < length nodes → s ≡ reach enough (view_of nodes sizes) (bindings_of bs) p → t ≡ reach enough (view_of nodes sizes) (bindings_of bs) q
    → Leads links s a → Leads links t b → Unification (view_of nodes sizes) (bindings_of bs) p q (bindings_of bs') → Linked nodes sizes bs' (set (set links' a b) s b)
linked_both {links' = links'} {s = s} {a = a} {b = b} read read' k k' i j x y c d u =
    let few = read.laid.few in
    let (sb, ab) = unified_links read read' k i j x y c d u in
    let al = (leads_same read k i c).0 in
    let bl = (leads_same read k j d).0 in
    let first = linked_put read' k' (omega (arith, al, few, k'.each_position)) bl ab in
    linked_put read' first (omega (arith, i, few, first.each_position)) bl sb
