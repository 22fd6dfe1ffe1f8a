-- How far a match is: the terms of the side that are still to be read, the terms of the subject that they are to meet, and what the variables met.
use Prim.Native.Nat.{ℕ, ◌+◌, ◌-◌, ◌≤◌, ◌<◌}
use mathlib.Core.Path.{◌≡◌, refl, sym, ap, ◌∙◌}
use mathlib.Core.Bool.{Bool, true, false}
use mathlib.Core.List.{List}
use mathlib.Core.Option.{Option, none, some}
use native.Mathlib.Omega.{arith}
use lib.ListN.{length, get_or, take, drop, replicate, get_or-replicate}
use Rattle.std.proofs.lemmas.List.{get_or-take, get_or-drop}
use Rattle.std.proofs.Common.{length-take}
use Rattle.format.specs.Limits.{first_variable, variable_count, filling_node}
use Rattle.terms.specs.Term.{Term, Terms, var, app, nil, cons, size, count, arity}
use Rattle.terms.specs.declared.arguments.Arguments.{Arguments}
use Rattle.terms.specs.ForContracts.Stored.{GroundStored}
use Rattle.terms.specs.Theory.Position.{size_pos}
use Rattle.terms.specs.Theory.Append.{append, nil_cons, count_append}
use Rattle.terms.specs.Theory.Prefix.{length_prefix}
use Rattle.terms.specs.Theory.Stored.{ground_size, stored_room}
use Rattle.terms.specs.Theory.Spelled.{Spelled, First, variable_first, symbol_first, spelled_one, first_spelled, spelled_none, spelled_some}
use Rattle.reducing.specs.Match.{Match, no_match, meet, match, match_each}
use Rattle.step_match.specs.ForContracts.Matching.{HasGround, MatchIs, HasMatch, Matched, SidePart, HasSidePart}
use Rattle.step_match.proofs.Row.{Row, row_one, row_first, row_others, row_symbol, row_arguments}
use Rattle.step_match.proofs.Steps.{same_symbol, other_symbol, variable_meets, variable_fails, one_term, matched, not_matched}

pub record MatchProgress (bytes : List ℕ) (end : ℕ) (nodes sizes arities : List ℕ) (s t : Term) (values : List ℕ) (i at : ℕ) : Type 0 where
  pub patterns : Terms
  pub parts : Terms
  pub found : Match
  pub spelled : Spelled bytes end arities i patterns
  pub row : Row nodes sizes arities at parts
  pub paired : count patterns ≡ count parts
  pub is : MatchIs nodes sizes arities found values
  pub left : match s t no_match ≡ match_each patterns parts found

nothing_met : (nodes sizes arities : List ℕ) → MatchIs nodes sizes arities no_match (replicate variable_count filling_node)
unfolding no_match
nothing_met nodes sizes arities = record { slots = refl; values_length = refl; each = λ v h. rw (get_or-replicate {A = Option Term} variable_count v none none h) (get_or-replicate variable_count v filling_node 0 h) }

pub start : {bytes nodes sizes arities : List ℕ} {side : Arguments} {node : ℕ} {s t : Term} → SidePart bytes side nodes sizes node arities s t
    → MatchProgress bytes side.end nodes sizes arities s t (replicate variable_count filling_node) side.from node
unfolding count
start {nodes = nodes} {sizes = sizes} {arities = arities} {s = s} {t = t} p = record {
  patterns = cons s nil;
  parts = cons t nil;
  found = no_match;
  spelled = spelled_one p.part.few_symbols p.fits p.spelled p.ends;
  row = row_one p.part p.inside;
  paired = refl;
  is = nothing_met nodes sizes arities;
  left = one_term s t no_match;
}

-- What holds for all terms that may stand there holds for those that do.
pub of_some : {bytes nodes sizes values : List ℕ} {side : Arguments} {node i at : ℕ} (h : HasSidePart bytes side nodes sizes node)
    → ((arities : List ℕ) (s t : Term) → SidePart bytes side nodes sizes node arities s t → MatchProgress bytes side.end nodes sizes arities s t values i at)
    → MatchProgress bytes side.end nodes sizes h.arities h.pattern h.part values i at
of_some h each = each h.arities h.pattern h.part h.is

-- The side's bytes stand among the equation's.
pub side_room : {bytes nodes sizes arities : List ℕ} {side : Arguments} {node : ℕ} {s t : Term} → SidePart bytes side nodes sizes node arities s t → side.end ≤ length bytes
side_room {s = s} p = omega (arith, p.ends, length_prefix s, size_pos s, stored_room p.spelled (omega (arith, length_prefix s, size_pos s)))

-- A byte of a part, as the loop over the part reads it.
pub byte_read : (bytes : List ℕ) (from end k : ℕ) → k < length (take (end - from) (drop from bytes)) → (get_or (take (end - from) (drop from bytes)) k 0 ≡ get_or bytes (from + k) 0) × (from + k < end)
byte_read bytes from end k h =
    let l : k < end - from = omega (arith, length-take (end - from) (drop from bytes)) in
    (get_or-take (end - from) (drop from bytes) k 0 l ∙ get_or-drop from bytes k 0, omega arith)

module _ {bytes : List ℕ} {end : ℕ} {nodes sizes arities : List ℕ} {s t : Term} {values : List ℕ} {i at : ℕ} (p : MatchProgress bytes end nodes sizes arities s t values i at) where
  -- As long as the side is not read to its end, a term of the subject is to be met.
  pub part_there : i < end → HasGround nodes sizes at
  unfolding count size
  part_there h = go p.parts p.row (omega (arith, spelled_some p.patterns p.spelled h, p.paired))
    where
      go : (ts : Terms) → Row nodes sizes arities at ts → 0 < count ts → HasGround nodes sizes at
      go nil w c = absurd (omega arith)
      go (cons u ts) w c = record { arities = arities; term = u; stored = row_first w; before_filling = omega (arith, w.within, size_pos u) }

  pub match_there : HasMatch nodes sizes values
  match_there = record { arities = arities; found = p.found; is = p.is }

  -- At a symbol.
  pub symbol_differs : i < end → get_or bytes i 0 < first_variable → (get_or bytes i 0 ≡ get_or nodes at 0 → ⊥) → match s t no_match ≡ none
  unfolding count
  symbol_differs h l n = go (first_spelled p.patterns p.spelled h) p.parts p.row p.paired p.left
    where
      go : {ss : Terms} → First bytes end arities i ss → (ts : Terms) → Row nodes sizes arities at ts → count ss ≡ count ts → match s t no_match ≡ match_each ss ts p.found
          → match s t no_match ≡ none
      go (variable_first b k r) ts w c x = absurd (omega arith)
      go (symbol_first b k a r) nil w c x = absurd (omega arith)
      go (symbol_first b k a r) (cons (var v) ts) w c x = absurd w.is_ground.0
      go (symbol_first {f} {args} {ss} b k a r) (cons (app g us) ts) w c x = x ∙ other_symbol args us ss ts p.found f g (λ e. n (b ∙ (e ∙ sym (row_symbol w))))

  pub symbol_same : i < end → get_or bytes i 0 < first_variable → get_or bytes i 0 ≡ get_or nodes at 0 → MatchProgress bytes end nodes sizes arities s t values (i + 1) (at + 1)
  unfolding count
  symbol_same h l e = go (first_spelled p.patterns p.spelled h) p.parts p.row p.paired p.left
    where
      go : {ss : Terms} → First bytes end arities i ss → (ts : Terms) → Row nodes sizes arities at ts → count ss ≡ count ts → match s t no_match ≡ match_each ss ts p.found
          → MatchProgress bytes end nodes sizes arities s t values (i + 1) (at + 1)
      go (variable_first b k r) ts w c x = absurd (omega arith)
      go (symbol_first b k a r) nil w c x = absurd (omega arith)
      go (symbol_first b k a r) (cons (var v) ts) w c x = absurd w.is_ground.0
      go (symbol_first {f} {args} {ss} b k a r) (cons (app g us) ts) w c x =
          let d : g ≡ f = sym (row_symbol w) ∙ (sym e ∙ b) in
          let n : count args ≡ count us = a ∙ (ap (arity arities) (sym d) ∙ sym w.is_ground.0.1) in
          record {
            patterns = append args ss;
            parts = append us ts;
            found = p.found;
            spelled = r;
            row = row_arguments w;
            paired = omega (arith, count_append args ss, count_append us ts);
            is = p.is;
            left = x ∙ (ap (λ y. match_each (cons (app f args) ss) (cons (app y us) ts) p.found) d ∙ same_symbol args us ss ts p.found f n);
          }

  -- At a variable.
  module _ (after : List ℕ) (x : ℕ) (r : Bool) (h : i < end) (l : first_variable ≤ get_or bytes i 0) (e : x ≡ get_or bytes i 0 - first_variable)
      (q : (u : Term) → GroundStored nodes sizes arities at u → Matched nodes sizes arities (meet p.found x u (get_or p.found x none)) after r) where
    pub variable_found : r ≡ true → MatchProgress bytes end nodes sizes arities s t after (i + 1) (at + get_or sizes at 0)
    unfolding count
    variable_found d = go (first_spelled p.patterns p.spelled h) p.parts p.row p.paired p.left
      where
        go : {ss : Terms} → First bytes end arities i ss → (ts : Terms) → Row nodes sizes arities at ts → count ss ≡ count ts → match s t no_match ≡ match_each ss ts p.found
            → MatchProgress bytes end nodes sizes arities s t after (i + 1) (at + get_or sizes at 0)
        go (symbol_first b k a z) ts w c y = absurd (omega arith)
        go (variable_first b k z) nil w c y = absurd (omega arith)
        go (variable_first {v} {ss} b k z) (cons u ts) w c y =
            let f : x ≡ v = omega (arith, e) in
            let (n, o, is) = matched nodes sizes arities after (meet p.found v u (get_or p.found v none)) (rw (f, d) at (q u (row_first w))) in
            record {
              patterns = ss;
              parts = ts;
              found = n;
              spelled = z;
              row = rw (ground_size (row_first w)) (row_others w);
              paired = omega arith;
              is = is;
              left = y ∙ variable_meets v u ss ts p.found o;
            }

    pub variable_refused : r ≡ false → match s t no_match ≡ none
    unfolding count
    variable_refused d = go (first_spelled p.patterns p.spelled h) p.parts p.row p.paired p.left
      where
        go : {ss : Terms} → First bytes end arities i ss → (ts : Terms) → Row nodes sizes arities at ts → count ss ≡ count ts → match s t no_match ≡ match_each ss ts p.found
            → match s t no_match ≡ none
        go (symbol_first b k a z) ts w c y = absurd (omega arith)
        go (variable_first b k z) nil w c y = absurd (omega arith)
        go (variable_first {v} {ss} b k z) (cons u ts) w c y =
            let f : x ≡ v = omega (arith, e) in
            y ∙ variable_fails v u ss ts p.found (not_matched nodes sizes arities after (meet p.found v u (get_or p.found v none)) (rw (f, d) at (q u (row_first w))))

  -- At the end.
  pub all_met : end ≤ i → match s t no_match ≡ some p.found
  unfolding match count
  all_met h = go p.patterns p.parts (spelled_none p.patterns p.spelled h) p.paired p.left
    where
      go : (ss ts : Terms) → ss ≡ nil → count ss ≡ count ts → match s t no_match ≡ match_each ss ts p.found → match s t no_match ≡ some p.found
      go nil nil e c x = x
      go nil (cons u ts) e c x = absurd (omega arith)
      go (cons u ss) ts e c x = absurd (nil_cons (sym e))
