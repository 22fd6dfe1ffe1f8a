-- The laws of the lines of the choices of each argument.
use Prim.Native.Nat.{ℕ, suc, ◌+◌, ◌*◌, ◌≤◌, ◌<◌}
use mathlib.Core.Path.{◌≡◌, refl, sym, ap, ◌∙◌}
use mathlib.Core.List.{List, ◌∷◌, ◌++◌, append_assoc}
use lib.ListN.{length, get_or, set, length-append, length-set}
use native.Mathlib.Omega.{arith}
use Rattle.solving.specs.Walk.{argument_choices}
use Rattle.line_bytes.specs.ForContracts.Resting.{equality_mark}
use Rattle.line_bytes.specs.ForContracts.Layout.{line_bytes, placed}
use Rattle.treating.specs.ForContracts.Choices.{choices_bytes, ArgumentsFit, PushesArguments}
use Rattle.bindings.specs.Theory.PrefixForm.{row_ordered, row_empty, row_next, row_first_some}
use Rattle.line_bytes.specs.Theory.Placed.{placed_none, placed_behind, gap_filled}

module _ (sizes : List ℕ) (at q end : ℕ) (line : List ℕ) where
  -- The lines of the first argument are put into the memory.
  pub arguments_put : (k to : ℕ) (records first second : List ℕ) → length line ≡ line_bytes → to + 2 * line_bytes ≤ length records
      → first ≡ placed to (set (set line at k) (at + 1) q) records
      → second ≡ placed (to + line_bytes) (set (set line at (k + equality_mark)) (at + 1) q) first
      → second ≡ placed to (set (set line at k) (at + 1) q ++ set (set line at (k + equality_mark)) (at + 1) q) records
  arguments_put k to records first second w h e f =
      let one = set (set line at k) (at + 1) q in
      let two = set (set line at (k + equality_mark)) (at + 1) q in
      let l : line_bytes ≡ length one = omega (arith, length-set (set line at k) (at + 1) q, length-set line at k) in
      f ∙ (ap (placed (to + line_bytes) two) e ∙ (ap (λ n. placed (to + n) two (placed to one records)) l ∙ placed_behind to one two records (omega arith)))

  pub arguments_done : (k to : ℕ) (records : List ℕ) → end ≤ k → PushesArguments sizes at q k end to line records records to
  unfolding choices_bytes argument_choices
  arguments_done k to records e = record {
    pushes = λ ss front back r a g. let n = row_empty r e in rw n (sym (placed_none to records), omega arith);
  }

  -- The bytes of the choices of the first argument, and behind them those of the others.
  pub choices_first : (k : ℕ) (ss front back : List ℕ)
      → choices_bytes front back (argument_choices (k ∷ ss) q) ≡ ((front ++ (k ∷ q ∷ back)) ++ (front ++ ((k + equality_mark) ∷ q ∷ back))) ++ choices_bytes front back (argument_choices ss q)
  unfolding choices_bytes argument_choices
  choices_first k ss front back =
      let c : equality_mark + k ≡ k + equality_mark = omega arith in
      let one = front ++ (k ∷ q ∷ back) in
      let rest = choices_bytes front back (argument_choices ss q) in
      ap (λ n. one ++ ((front ++ (n ∷ q ∷ back)) ++ rest)) c ∙ sym (append_assoc one (front ++ ((k + equality_mark) ∷ q ∷ back)) rest)

  pub arguments_next : (k to size next r : ℕ) (records second after : List ℕ) → k < end → length line ≡ line_bytes → to + 2 * line_bytes ≤ length records
      → second ≡ placed to (set (set line at k) (at + 1) q ++ set (set line at (k + equality_mark)) (at + 1) q) records
      → size ≡ get_or sizes k 0 → next ≡ to + 2 * line_bytes
      → PushesArguments sizes at q (k + size) end next line second after r → PushesArguments sizes at q k end to line records after r
  unfolding argument_choices
  arguments_next k to size next r records second after h w m e n f p = record {
    pushes = λ ss front back row a g.
        let (qs, x, rest) = row_next row h in
        let one = set (set line at k) (at + 1) q in
        let two = set (set line at (k + equality_mark)) (at + 1) q in
        let behind = choices_bytes front back (argument_choices qs q) in
        let j : next ≡ to + length (one ++ two) =
        omega (arith, length-append one two, length-set (set line at k) (at + 1) q, length-set line at k, length-set (set line at (k + equality_mark)) (at + 1) q, length-set line at (k + equality_mark)) in
        let (y, z) = p.pushes qs front back (rw n rest) a g in
        let b : (one ++ two) ++ behind ≡ choices_bytes front back (argument_choices ss q) =
        ap (λ l. (l ++ two) ++ behind) (gap_filled k q a g)
        ∙ (ap (λ l. ((front ++ (k ∷ q ∷ back)) ++ l) ++ behind) (gap_filled (k + equality_mark) q a g)
        ∙ (sym (choices_first k qs front back)
        ∙ ap (λ l. choices_bytes front back (argument_choices l q)) (sym x))) in
        let c : length (argument_choices ss q) ≡ suc (suc (length (argument_choices qs q))) = ap (λ l. length (argument_choices l q)) x in
        (y ∙ (ap (placed next behind) e ∙ (ap (λ i. placed i behind (placed to (one ++ two) records)) j ∙ (placed_behind to (one ++ two) behind records (omega arith) ∙ ap (λ l. placed to l records) b))), omega arith);
  }

  pub arguments_room : {k to : ℕ} {records : List ℕ} → ArgumentsFit sizes at q k end to line records → k < end → to + 2 * line_bytes ≤ length records
  unfolding argument_choices
  arguments_room f h =
      let (qs, x, rest) = row_next f.row h in
      let c : length (argument_choices f.starts q) ≡ suc (suc (length (argument_choices qs q))) = ap (λ l. length (argument_choices l q)) x in
      omega (arith, f.room)

  pub arguments_size : {k to : ℕ} {records : List ℕ} → ArgumentsFit sizes at q k end to line records → k < end → (0 < get_or sizes k 0) × (k + get_or sizes k 0 ≤ end)
  arguments_size f h = let (qs, x, rest) = row_next f.row h in (row_first_some f.row h, row_ordered rest)

  pub arguments_fit : {k to : ℕ} {records : List ℕ} (size next : ℕ) (second : List ℕ) → ArgumentsFit sizes at q k end to line records → k < end
      → length second ≡ length records → size ≡ get_or sizes k 0 → next ≡ to + 2 * line_bytes → ArgumentsFit sizes at q (k + size) end next line second
  unfolding argument_choices
  arguments_fit size next second f h l n e =
      let (qs, x, rest) = row_next f.row h in
      let c : length (argument_choices f.starts q) ≡ suc (suc (length (argument_choices qs q))) = ap (λ l. length (argument_choices l q)) x in
      record { starts = qs; row = rw n rest; within = f.within; low = f.low; whole = f.whole; place = f.place; room = omega (arith, f.room) }

  -- The lines of the arguments up to `k` are in the memory: what is still to be done does the whole.
  pub record PushingArguments (k₀ to₀ : ℕ) (before : List ℕ) (k to : ℕ) (records : List ℕ) : Type 0 where
    pub fits : ArgumentsFit sizes at q k end to line records
    pub kept : length records ≡ length before
    pub rest : (after : List ℕ) (r : ℕ) → PushesArguments sizes at q k end to line records after r → PushesArguments sizes at q k₀ end to₀ line before after r

  pub pushing_start : {k to : ℕ} {records : List ℕ} → ArgumentsFit sizes at q k end to line records → PushingArguments k to records k to records
  pushing_start f = record { fits = f; kept = refl; rest = λ after r p. p }

  pub pushing_next : {k₀ to₀ k to : ℕ} {before records : List ℕ} (size next : ℕ) (first second : List ℕ) → PushingArguments k₀ to₀ before k to records → k < end
      → first ≡ placed to (set (set line at k) (at + 1) q) records
      → second ≡ placed (to + line_bytes) (set (set line at (k + equality_mark)) (at + 1) q) first
      → length second ≡ length records → size ≡ get_or sizes k 0 → next ≡ to + 2 * line_bytes
      → PushingArguments k₀ to₀ before (k + size) next second
  pushing_next {k = k} {to = to} {records = records} size next first second p h e f l n j =
      let m = arguments_room p.fits h in
      record {
        fits = arguments_fit size next second p.fits h l n j;
        kept = l ∙ p.kept;
        rest = λ after r x. p.rest after r (arguments_next k to size next r records second after h p.fits.whole m (arguments_put k to records first second p.fits.whole m e f) n j x);
      }

  pub pushing_done : {k₀ to₀ k to : ℕ} {before records : List ℕ} → PushingArguments k₀ to₀ before k to records → end ≤ k → PushesArguments sizes at q k₀ end to₀ line before records to
  pushing_done {k = k} {to = to} {records = records} p h = p.rest records to (arguments_done k to records h)
