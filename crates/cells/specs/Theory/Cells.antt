-- Laws of the cells of a comparison: where no row is ready, where one more row is, and where the equation and the match are others.
use Rattle.std.specs.Prelude.{ℕ, zero, suc, ◌+◌, ◌*◌, ◌≤◌, ◌<◌, ◌≡◌, refl, ◌⊎◌, List, length, get_or, replicate, set}
use Rattle.std.proofs.Common.{sym, ap, ◌∙◌, inl, inr, arith, length-set, get_or-set_same, get_or-set_other}
use Rattle.std.proofs.Math.Decide.{dec_lt, ℕ_discrete}
use Rattle.format.specs.Limits.{position_count, first_variable, variable_count, node_count, row_cells, cell_count}
use Rattle.format.specs.Byte.{class_of}
use Rattle.format.specs.Theory.Byte.{class_variable}
use Rattle.terms.specs.Term.{Term, Terms}
use Rattle.terms.specs.ForContracts.Stored.{AllSymbols}
use Rattle.cells.specs.ForContracts.Nodes.{TermAt, Denotes, symbol_node, variable_node, RowDenotes, none, more}
use Rattle.cells.specs.ForContracts.Cells.{Settles, SettledCells, Cleared, MadeReady}
use Rattle.cells.specs.Theory.Nodes.{within}

-- No row is ready.
pub none_ready : {nodes sizes values ready cells : List ℕ} → length nodes ≡ node_count → length sizes ≡ node_count → length values ≡ variable_count
    → length ready ≡ node_count → length cells ≡ cell_count → ((i : ℕ) → position_count ≤ i → get_or nodes i 0 < first_variable)
    → ((k : ℕ) → get_or ready k 0 ≡ 0) → SettledCells nodes sizes values ready cells
none_ready a b c r d l z = record {
  nodes_length = a;
  sizes_length = b;
  values_length = c;
  ready_length = r;
  cells_length = d;
  symbols = l;
  settled = λ i j s t h. absurd (omega (arith, z i));
}

-- One more row is ready.
pub made_ready_settled : {nodes sizes values ready cells after cleared : List ℕ} {s : ℕ} → SettledCells nodes sizes values ready cells → MadeReady ready cells s after cleared
    → SettledCells nodes sizes values after cleared
made_ready_settled {nodes} {sizes} {values} {ready} {cells} {after} {cleared} m o = record {
  nodes_length = m.nodes_length;
  sizes_length = m.sizes_length;
  values_length = m.values_length;
  ready_length = o.ready_length ∙ m.ready_length;
  cells_length = o.cells_length ∙ m.cells_length;
  symbols = m.symbols;
  settled = λ i j s t h l a b. elim (o.kept i j l (within b) h) [ inl e ↦ inl e | inr e ↦ rw e.1 (m.settled i j s t e.0 l a b) ];
}

-- From `n` on the two lists are the same.
pub record SameFrom (n : ℕ) (before after : List ℕ) : Type 0 where
  pub same_length : length after ≡ length before
  pub same : (k : ℕ) → n ≤ k → get_or after k 0 ≡ get_or before k 0

-- A subject's node stands for the same term whatever the equation's nodes are and whatever the variables stand for.
module _ {nodes sizes nodes_after sizes_after : List ℕ} {Value Value-after : ℕ → Term → Type 0}
    (symbols : (i : ℕ) → position_count ≤ i → get_or nodes i 0 < first_variable)
    (n : SameFrom position_count nodes nodes_after) (l : SameFrom position_count sizes sizes_after) where
  mutual
    pub subject_denotes : {i : ℕ} {t : Term} → position_count ≤ i → Denotes nodes_after sizes_after Value-after i t → Denotes nodes sizes Value i t
    subject_denotes {i} h (symbol_node w c r) =
        let q = subject_row (omega arith) r in
        symbol_node w (ap class_of (sym (n.same i h)) ∙ c) (rw (l.same i h) at q)
    subject_denotes {i} h (variable_node {v = v} w c o x) = absurd (omega (arith, (class_variable (get_or nodes_after i 0) v c).0, symbols i h, n.same i h))

    pub subject_row : {k end : ℕ} {ts : Terms} → position_count ≤ k → RowDenotes nodes_after sizes_after Value-after k end ts → RowDenotes nodes sizes Value k end ts
    subject_row h (none e) = none e
    subject_row {k} h (more s r) =
        let q = subject_row (omega arith) r in
        more (subject_denotes h s) (rw (l.same k h) at q)

-- Between two matches of a run: once the rows of the equation's nodes are not ready any more, the cells hold for any other equation and any other match.
pub next_match : {nodes sizes values ready cells nodes_after sizes_after values_after ready_after : List ℕ} → SettledCells nodes sizes values ready cells
    → SameFrom position_count nodes nodes_after → SameFrom position_count sizes sizes_after → length values_after ≡ variable_count
    → Cleared ready 0 position_count ready_after
    → SettledCells nodes_after sizes_after values_after ready_after cells
next_match {nodes} {sizes} {values} {ready} {cells} {nodes_after} {sizes_after} {values_after} {ready_after} m n l v r = record {
  nodes_length = n.same_length ∙ m.nodes_length;
  sizes_length = l.same_length ∙ m.sizes_length;
  values_length = v;
  ready_length = r.same_length ∙ m.ready_length;
  cells_length = m.cells_length;
  symbols = λ i h. omega (arith, n.same i h, m.symbols i h);
  settled = settled;
}
  where
    settled : (i j : ℕ) (s t : Term) → 0 < get_or ready_after i 0 → position_count ≤ j → TermAt nodes_after sizes_after values_after i s → TermAt nodes_after sizes_after values_after j t
        → (get_or cells (i * row_cells + j) 0 ≡ 0) ⊎ Settles (get_or cells (i * row_cells + j) 0) s t
    settled i j s t h k a b = elim (dec_lt i position_count) [
      | yes lt ↦ absurd (omega (arith, r.inside i (omega arith) lt))
      | no ge ↦
          let c : position_count ≤ i = omega arith in
          m.settled i j s t (omega (arith, r.above i c)) k (subject_denotes m.symbols n l c a) (subject_denotes m.symbols n l k b)
    ]

-- A buffer that was cleared has no variables.
pub zero_bytes : (n i : ℕ) → get_or {A = ℕ} (replicate n 0) i 0 ≡ 0
zero_bytes zero i = refl
zero_bytes (suc n) zero = refl
zero_bytes (suc n) (suc i) = zero_bytes n i

pub symbols_zero : (n : ℕ) → AllSymbols (replicate n 0)
unfolding AllSymbols
symbols_zero n i = omega (arith, zero_bytes n i)

pub cleared_none : (cells : List ℕ) (from : ℕ) → Cleared cells from from cells
cleared_none cells from = record { same_length = refl; inside = λ k h l. absurd (omega arith); below = λ k h. refl; above = λ k h. refl }

pub cleared_more : {before after : List ℕ} {from at : ℕ} → Cleared before from at after → from ≤ at → at < length before → Cleared before from (at + 1) (set after at 0)
cleared_more {before} {after} {from} {at} c h l = record {
  same_length = length-set after at 0 ∙ c.same_length;
  inside = λ k a b. elim (ℕ_discrete k at) [
    | yes e ↦ rw e (get_or-set_same after at 0 0 (omega (arith, c.same_length)))
    | no e ↦ get_or-set_other after at k 0 0 e ∙ c.inside k a (omega arith)
  ];
  below = λ k a. get_or-set_other after at k 0 0 (λ e. omega arith) ∙ c.below k a;
  above = λ k a. get_or-set_other after at k 0 0 (λ e. omega arith) ∙ c.above k (omega arith);
}

module _ {nodes sizes values ready cells : List ℕ} (x : SettledCells nodes sizes values ready cells) where
  -- A cell that is not 0 says what is settled.
  pub cell_settles : {i j : ℕ} {s t : Term} → 0 < get_or ready i 0 → position_count ≤ j → 0 < get_or cells (i * row_cells + j) 0 → TermAt nodes sizes values i s
      → TermAt nodes sizes values j t → Settles (get_or cells (i * row_cells + j) 0) s t
  cell_settles {i} {j} {s} {t} o l h a b = elim (x.settled i j s t o l a b) [ inl e ↦ absurd (omega arith) | inr e ↦ e ]

  pub cell_put : {i j w : ℕ} → i < node_count → j < node_count → ((s t : Term) → TermAt nodes sizes values i s → TermAt nodes sizes values j t → Settles w s t)
      → SettledCells nodes sizes values ready (set cells (i * row_cells + j) w)
  cell_put {i} {j} {w} h k c = record {
    nodes_length = x.nodes_length;
    sizes_length = x.sizes_length;
    values_length = x.values_length;
    ready_length = x.ready_length;
    cells_length = length-set cells (i * row_cells + j) w ∙ x.cells_length;
    symbols = x.symbols;
    settled = settled;
  }
    where
      settled : (p q : ℕ) (s t : Term) → 0 < get_or ready p 0 → position_count ≤ q → TermAt nodes sizes values p s → TermAt nodes sizes values q t
          → (get_or (set cells (i * row_cells + j) w) (p * row_cells + q) 0 ≡ 0) ⊎ Settles (get_or (set cells (i * row_cells + j) w) (p * row_cells + q) 0) s t
      settled p q s t o l a b = elim (ℕ_discrete (p * row_cells + q) (i * row_cells + j)) [
        | yes e ↦
            let u = within a in
            let v = within b in
            let d : p ≡ i = omega arith in
            let f : q ≡ j = omega arith in
            let z : i * row_cells + j < length cells = omega (arith, x.cells_length) in
            inr (rw (e, get_or-set_same cells (i * row_cells + j) w 0 z) (c s t (rw d at a) (rw f at b)))
        | no e ↦ rw (get_or-set_other cells (i * row_cells + j) (p * row_cells + q) w 0 e) (x.settled p q s t o l a b)
      ]
