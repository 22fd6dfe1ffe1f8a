-- The laws of the lines of the lexicographic choices: each differs from the one before it in two places only.
use Prim.Native.Nat.{ℕ, suc, ◌+◌, ◌*◌, ◌≤◌, ◌<◌}
use mathlib.Core.Path.{◌≡◌, refl, sym, ap, ◌∙◌}
use mathlib.Core.List.{List, [], ◌∷◌, ◌++◌, map, append_assoc}
use lib.Seq.{set_at}
use lib.ListN.{length, get_or, set, length-append, length-set, length-map}
use native.Mathlib.Omega.{arith}
use Rattle.solving.specs.Line.{Element, equal, greater}
use Rattle.solving.specs.Walk.{exceeds_each, lexicographic_choices}
use Rattle.line_bytes.specs.ForContracts.Resting.{equality_mark, marks}
use Rattle.bindings.specs.ForContracts.PrefixForm.{Row, none}
use Rattle.line_bytes.specs.ForContracts.Layout.{line_bytes, placed}
use Rattle.treating.specs.ForContracts.Choices.{choices_bytes, marked_equal, EqualFit, MarksEqual, LexicographicFit, PushesLexicographic}
use Rattle.treating.proofs.Marked.{length_marked, marked_last, marked_set, marked_placed, row_last}
use Rattle.bindings.specs.Theory.PrefixForm.{row_ordered, row_empty, row_next, row_first_some}
use Rattle.line_bytes.specs.Theory.Placed.{placed_none, placed_behind, set_pair}

pub marks_first : (e : Element) (es : List Element) → marks (e ∷ es) ≡ marks (e ∷ []) ++ marks es
unfolding marks
marks_first (equal p q) es = refl
marks_first (greater p q) es = refl

-- An element that all choices have in front belongs to the bytes in front.
pub choices_front : (front back : List ℕ) (e : Element) (css : List (List Element)) → choices_bytes front back (map (e ∷◌) css) ≡ choices_bytes (front ++ marks (e ∷ [])) back css
unfolding choices_bytes
choices_front front back e [] = refl
choices_front front back e (cs ∷ css) =
    let first : front ++ (marks (e ∷ cs) ++ back) ≡ (front ++ marks (e ∷ [])) ++ (marks cs ++ back) =
    ap (λ l. front ++ (l ++ back)) (marks_first e cs)
    ∙ (ap (front ++◌) (append_assoc (marks (e ∷ [])) (marks cs) back)
    ∙ sym (append_assoc front (marks (e ∷ [])) (marks cs ++ back))) in
    ap (◌++ choices_bytes front back (map (e ∷◌) css)) first ∙ ap (((front ++ marks (e ∷ [])) ++ (marks cs ++ back)) ++◌) (choices_front front back e css)

pub no_choices : (p : ℕ) (ss : List ℕ) → lexicographic_choices p ss [] ≡ []
unfolding lexicographic_choices
no_choices p [] = refl
no_choices p (s ∷ ss) = refl

pub choices_count : (p s t : ℕ) (ss ts : List ℕ) → length (lexicographic_choices p (s ∷ ss) (t ∷ ts)) ≡ suc (length (lexicographic_choices p ss ts))
unfolding lexicographic_choices
choices_count p s t ss ts = ap suc (length-map (lexicographic_choices p ss ts) (equal s t ∷◌))

module _ (sizes : List ℕ) (m n : ℕ) where
  pub lexicographic_left_done : (k l at to : ℕ) (line records : List ℕ) → m ≤ k → PushesLexicographic sizes at k m l n to line records records to
  unfolding choices_bytes lexicographic_choices
  lexicographic_left_done k l at to line records h = record {
    pushes = λ p ss ts front back r s a e. let x = row_empty r h in rw x (sym (placed_none to records), omega arith);
  }

  pub lexicographic_right_done : (k l at to : ℕ) (line records : List ℕ) → n ≤ l → PushesLexicographic sizes at k m l n to line records records to
  unfolding choices_bytes
  lexicographic_right_done k l at to line records h = record {
    pushes = λ p ss ts front back r s a e.
        let x : lexicographic_choices p ss ts ≡ [] = ap (lexicographic_choices p ss) (row_empty s h) ∙ no_choices p ss in
        rw x (sym (placed_none to records), omega arith);
  }

  pub lexicographic_next : (k l at to s_size t_size place next r : ℕ) (line records first after : List ℕ) → k < m → l < n → length line ≡ line_bytes → to ≤ length records
      → first ≡ placed to (set (set line at k) (at + 1) l) records → s_size ≡ get_or sizes k 0 → t_size ≡ get_or sizes l 0 → place ≡ at + 2 → next ≡ to + line_bytes
      → PushesLexicographic sizes place (k + s_size) m (l + t_size) n next (set line at (k + equality_mark)) first after r
      → PushesLexicographic sizes at k m l n to line records after r
  unfolding choices_bytes lexicographic_choices exceeds_each marks
  lexicographic_next k l at to s_size t_size place next r line records first after h i w u e x y j v f = record {
    pushes = λ p ss ts front back row_s row_t a b.
        let (ss', xs, rest_s) = row_next row_s h in
        let (ts', xt, rest_t) = row_next row_t i in
        let others = marks (exceeds_each p ts') ++ back in
        let is : line ≡ front ++ (p ∷ l ∷ others) = b ∙ ap (λ z. front ++ (marks (exceeds_each p z) ++ back)) xt in
        let one : set (set line at k) (at + 1) l ≡ front ++ (k ∷ l ∷ others) = ap (λ z. set (set z at k) (at + 1) l) is ∙ set_pair front p l k l others at a in
        let wide : length (front ++ (k ∷ l ∷ others)) ≡ line_bytes = sym (ap length one) ∙ (length-set (set line at k) (at + 1) l ∙ (length-set line at k ∙ w)) in
        let c : k + equality_mark ≡ equality_mark + k = omega arith in
        let new = front ++ ((equality_mark + k) ∷ l ∷ []) in
        let two : set line at (k + equality_mark) ≡ new ++ others =
        ap (λ z. set z at (k + equality_mark)) is
        ∙ (set_at front p (l ∷ others) (k + equality_mark) at a
        ∙ (ap (λ z. front ++ (z ∷ l ∷ others)) c
        ∙ sym (append_assoc front ((equality_mark + k) ∷ l ∷ []) others))) in
        let seam : length new ≡ place = omega (arith, length-append front ((equality_mark + k) ∷ l ∷ [])) in
        let (z, o) = f.pushes p ss' ts' new back (rw x rest_s) (rw y rest_t) seam two in
        let css = lexicographic_choices p ss' ts' in
        let behind = choices_bytes new back css in
        let q : next ≡ to + length (front ++ (k ∷ l ∷ others)) = omega arith in
        let all : (front ++ (k ∷ l ∷ others)) ++ behind ≡ choices_bytes front back (lexicographic_choices p ss ts) =
        ap ((front ++ (k ∷ l ∷ others)) ++◌) (sym (choices_front front back (equal k l) css))
        ∙ (ap (λ z. choices_bytes front back (lexicographic_choices p z (l ∷ ts'))) (sym xs)
        ∙ ap (λ z. choices_bytes front back (lexicographic_choices p ss z)) (sym xt)) in
        let count : length (lexicographic_choices p ss ts) ≡ suc (length css) =
        ap (λ z. length (lexicographic_choices p z ts)) xs ∙ (ap (λ z. length (lexicographic_choices p (k ∷ ss') z)) xt ∙ choices_count p k l ss' ts') in (
          z
              ∙ (ap (placed next behind) (e ∙ ap (λ g. placed to g records) one)
              ∙ (ap (λ g. placed g behind (placed to (front ++ (k ∷ l ∷ others)) records)) q
              ∙ (placed_behind to (front ++ (k ∷ l ∷ others)) behind records u
              ∙ ap (λ g. placed to g records) all))),
          omega arith,
        );
  }

  pub lexicographic_sizes : {k l at to : ℕ} {line records : List ℕ} → LexicographicFit sizes at k m l n to line records → k < m → l < n
      → (0 < get_or sizes k 0) × (k + get_or sizes k 0 ≤ m) × (l + get_or sizes l 0 ≤ n)
  lexicographic_sizes f h i =
      let (ss, x, rest) = row_next f.left_row h in
      let (ts, y, others) = row_next f.right_row i in
      (row_first_some f.left_row h, row_ordered rest, row_ordered others)

  one_more : {k l at to : ℕ} {line records ss ts : List ℕ} (f : LexicographicFit sizes at k m l n to line records) → f.left ≡ k ∷ ss → f.right ≡ l ∷ ts
      → length (lexicographic_choices f.whole_side f.left f.right) ≡ suc (length (lexicographic_choices f.whole_side ss ts))
  one_more {k = k} {l = l} {ss = ss} {ts = ts} f x y =
      ap (λ z. length (lexicographic_choices f.whole_side z f.right)) x
      ∙ (ap (λ z. length (lexicographic_choices f.whole_side (k ∷ ss) z)) y ∙ choices_count f.whole_side k l ss ts)

  pub lexicographic_room : {k l at to : ℕ} {line records : List ℕ} → LexicographicFit sizes at k m l n to line records → k < m → l < n
      → (to + line_bytes ≤ length records) × (at + 2 ≤ line_bytes)
  lexicographic_room f h i =
      let (ss, x, rest) = row_next f.left_row h in
      let (ts, y, others) = row_next f.right_row i in
      let c = one_more f x y in
      let d = ap length y in
      (omega (arith, f.room), omega (arith, f.places))

  -- The lines of the pairs up to `k` and `l` are in the memory: what is still to be done, with a line that has the equalities of those pairs, does the whole.
  pub record PushingLexicographic (k₀ l₀ at₀ to₀ : ℕ) (line before : List ℕ) (k l at to : ℕ) (records : List ℕ) : Type 0 where
    pub done : List ℕ
    pub done_row : Row sizes k₀ k done
    pub reached : at ≡ at₀ + 2 * length done
    pub fits : LexicographicFit sizes at k m l n to (marked_equal done at₀ line) records
    pub kept : length records ≡ length before
    pub rest : (after : List ℕ) (r : ℕ) → PushesLexicographic sizes at k m l n to (marked_equal done at₀ line) records after r → PushesLexicographic sizes at₀ k₀ m l₀ n to₀ line before after r

  pub pushing_start : {k l at to : ℕ} {line records : List ℕ} → LexicographicFit sizes at k m l n to line records → PushingLexicographic k l at to line records k l at to records
  unfolding marked_equal
  pushing_start f = record { done = []; done_row = none refl; reached = omega arith; fits = f; kept = refl; rest = λ after r x. x }

  module _ {k₀ l₀ at₀ to₀ k l at to : ℕ} {line before records : List ℕ} (p : PushingLexicographic k₀ l₀ at₀ to₀ line before k l at to records) where
    pub pushing_whole : length line ≡ line_bytes
    pushing_whole = sym (length_marked p.done at₀ line) ∙ p.fits.whole

    pub pushing_left_done : m ≤ k → PushesLexicographic sizes at₀ k₀ m l₀ n to₀ line before records to
    pushing_left_done h = p.rest records to (lexicographic_left_done k l at to (marked_equal p.done at₀ line) records h)

    pub pushing_right_done : n ≤ l → PushesLexicographic sizes at₀ k₀ m l₀ n to₀ line before records to
    pushing_right_done h = p.rest records to (lexicographic_right_done k l at to (marked_equal p.done at₀ line) records h)

    module _ (h : k < m) (i : l < n) where
      -- The pairs before this one can be marked in the line that was put.
      pub pushing_marks : (first : List ℕ) → length first ≡ length records → EqualFit sizes (to + at₀) k₀ k first
      pushing_marks first e =
          let (room, place) = lexicographic_room p.fits h i in
          record {
            starts = p.done;
            row = p.done_row;
            within = omega (arith, p.fits.left_within);
            low = omega (arith, p.fits.left_low);
            room = omega (arith, p.reached);
          }

      -- The line that was put and then marked is the marked line with this pair.
      pub pushing_put : (first second : List ℕ) → first ≡ placed to (set (set line at k) (at + 1) l) records → MarksEqual sizes (to + at₀) k₀ k first second
          → second ≡ placed to (set (set (marked_equal p.done at₀ line) at k) (at + 1) l) records
      pushing_put first second e f =
          let (room, place) = lexicographic_room p.fits h i in
          let done = p.done in
          let r = p.reached in
          let one = set line at k in
          let w = pushing_whole in
          let u = length-set line at k in
          let v = length-set one (at + 1) l in
          f.marks_each done p.done_row
          ∙ (ap (marked_equal done (to + at₀)) e
          ∙ (marked_placed done at₀ to (set one (at + 1) l) records (omega arith) (omega arith)
          ∙ (ap (λ z. placed to z records) (marked_set done at₀ (at + 1) l one (omega arith))
          ∙ ap (λ z. placed to (set z (at + 1) l) records) (marked_set done at₀ at k line (omega arith)))))

      pub pushing_next : (s_size t_size place next : ℕ) (first second : List ℕ) → first ≡ placed to (set (set line at k) (at + 1) l) records
          → MarksEqual sizes (to + at₀) k₀ k first second → length second ≡ length records
          → s_size ≡ get_or sizes k 0 → t_size ≡ get_or sizes l 0 → place ≡ at + 2 → next ≡ to + line_bytes
          → PushingLexicographic k₀ l₀ at₀ to₀ line before (k + s_size) (l + t_size) place next second
      pushing_next s_size t_size place next first second e g w x y j v =
          let f = p.fits in
          let done = p.done in
          let new = done ++ (k ∷ []) in
          let (ss, u, rest) = row_next f.left_row h in
          let (ts, o, others) = row_next f.right_row i in
          let c = one_more f u o in
          let b = ap length o in
          let q = f.room in
          let z = length-append done (k ∷ []) in
          let marks_new : marked_equal new at₀ line ≡ set (marked_equal done at₀ line) at (k + equality_mark) =
          marked_last done k at₀ line ∙ ap (λ d. set (marked_equal done at₀ line) d (k + equality_mark)) (sym p.reached) in
          record {
            done = new;
            done_row = rw x (row_last p.done_row (row_first_some f.left_row h));
            reached = omega (arith, p.reached);
            fits =
                record {
                  whole_side = f.whole_side;
                  left = ss;
                  right = ts;
                  left_row = rw x rest;
                  right_row = rw y others;
                  left_within = f.left_within;
                  right_within = f.right_within;
                  left_low = f.left_low;
                  right_low = f.right_low;
                  whole = length_marked new at₀ line ∙ pushing_whole;
                  places = omega (arith, f.places);
                  room = omega arith;
                };
            kept = w ∙ p.kept;
            rest = λ after r d.
                p.rest after r (lexicographic_next k l at to s_size t_size place next r (marked_equal done at₀ line) records second after h i f.whole (omega arith) (pushing_put first second e g) x y j v (rw marks_new at d));
          }
