-- Terms whose prefix forms and sizes are stored in the nodes stand there, and so does each of their subterms at its position.
use Rattle.std.specs.Prelude.{ℕ, zero, suc, ◌+◌, ◌-◌, ◌≤◌, ◌<◌, ◌≡◌, refl, List, map, length, get_or}
use Rattle.std.proofs.Common.{ap, ◌∙◌, arith}
use Rattle.std.proofs.lemmas.List.{map-append, length-map}
use Rattle.std.proofs.Math.Decide.{dec_lt}
use Rattle.format.specs.Limits.{max_symbols, node_count}
use Rattle.format.specs.Byte.{class_of}
use Rattle.format.specs.Theory.Byte.{symbol_class, variable_class}
use Rattle.terms.specs.Term.{Term, Terms, var, app, nil, cons, size, sizes, Values, inst, insts, Ground, Grounds}
use Rattle.terms.specs.Position.{subterms, subterms_of}
use Rattle.terms.specs.Prefix.{prefix, prefixes}
use Rattle.terms.specs.Theory.Variables.{VariablesIn, AllVariablesIn}
use Rattle.terms.specs.Theory.Position.{length_subterms, subterm_first, subterm_rest}
use Rattle.terms.specs.Theory.Ground.{ground_no_variable, grounds_no_variable, no_variable_ground}
use Rattle.terms.specs.Theory.Prefix.{ground_fits, grounds_fit, length_prefix}
use Rattle.terms.specs.Theory.Stored.{stored_head, stored_tail, stored_first, stored_rest}
use Rattle.terms.specs.ForContracts.Fits.{AllFit, Fits}
use Rattle.terms.specs.ForContracts.Stored.{PartAt, GroundStored}
use Rattle.cells.specs.ForContracts.Nodes.{Denotes, symbol_node, variable_node, RowDenotes, none, more}

-- Terms over symbols with these arities, and values for their variables, which are among those that `P` holds of.
module _ (arities : List ℕ) (known : length arities ≤ max_symbols) (nodes stored_sizes : List ℕ) (Value : ℕ → Term → Type 0)
    (ρ : Values) (P : ℕ → Type 0) (given : (v : ℕ) → P v → Value v (ρ v)) where
  pub record TermStored (i : ℕ) (t : Term) : Type 0 where
    pub fits : Fits arities t
    pub few : VariablesIn P t
    pub bytes : PartAt nodes i (prefix t)
    pub sizes_there : PartAt stored_sizes i (map size (subterms t))
    pub within : i + size t ≤ node_count

  pub record TermsStored (i : ℕ) (ts : Terms) : Type 0 where
    pub fit : AllFit arities ts
    pub few : AllVariablesIn P ts
    pub bytes : PartAt nodes i (prefixes ts)
    pub sizes_there : PartAt stored_sizes i (map size (subterms_of ts))
    pub within : i + sizes ts ≤ node_count

  stored_arguments : {i f : ℕ} {ts : Terms} → TermStored i (app f ts) → TermsStored (i + 1) ts
  unfolding prefix subterms size
  stored_arguments {i} {f} {ts} s = record {
    fit = s.fits.2;
    few = s.few;
    bytes = stored_tail s.bytes;
    sizes_there = stored_tail s.sizes_there;
    within = omega (arith, s.within);
  }

  row_head : {i : ℕ} {t : Term} {ts : Terms} → TermsStored i (cons t ts) → TermStored i t
  unfolding prefix subterms size
  row_head {i} {t} {ts} s = record {
    fits = s.fit.0;
    few = s.few.0;
    bytes = stored_first (prefix t) (prefixes ts) s.bytes;
    sizes_there = stored_first (map size (subterms t)) (map size (subterms_of ts)) (rw (map-append size (subterms t) (subterms_of ts)) at s.sizes_there);
    within = omega (arith, s.within);
  }

  row_tail : {i : ℕ} {t : Term} {ts : Terms} → TermsStored i (cons t ts) → TermsStored (i + size t) ts
  unfolding prefix subterms size
  row_tail {i} {t} {ts} s = record {
    fit = s.fit.1;
    few = s.few.1;
    bytes = stored_rest (prefix t) (prefixes ts) (size t) (length_prefix t) s.bytes;
    sizes_there = stored_rest (map size (subterms t)) (map size (subterms_of ts)) (size t) (length-map (subterms t) size ∙ length_subterms t) (rw (map-append size (subterms t) (subterms_of ts)) at s.sizes_there);
    within = omega (arith, s.within);
  }

  size_there : {i : ℕ} (t : Term) → TermStored i t → get_or stored_sizes i 0 ≡ size t
  unfolding subterms
  size_there (var v) s = stored_head s.sizes_there
  size_there (app f ts) s = stored_head s.sizes_there

  mutual
    unfolding prefix size inst

    pub stored_denotes : (t : Term) (i : ℕ) → TermStored i t → Denotes nodes stored_sizes Value i (inst ρ t)
    stored_denotes (var v) i s =
        let l : i < node_count = omega (arith, s.within) in
        variable_node l (ap class_of (stored_head s.bytes) ∙ variable_class v s.fits) (size_there (var v) s) (given v s.few)
    stored_denotes (app f ts) i s =
        let e : i + get_or stored_sizes i 0 ≡ (i + 1) + sizes ts = omega (arith, size_there (app f ts) s) in
        let l : i < node_count = omega (arith, s.within) in
        let r : RowDenotes nodes stored_sizes Value (i + 1) (i + get_or stored_sizes i 0) (insts ρ ts) = rw e (stored_row_denotes ts (i + 1) (stored_arguments s)) in
        symbol_node l (ap class_of (stored_head s.bytes) ∙ symbol_class f (omega (arith, s.fits.0))) r

    pub stored_row_denotes : (ts : Terms) (i : ℕ) → TermsStored i ts → RowDenotes nodes stored_sizes Value i (i + sizes ts) (insts ρ ts)
    stored_row_denotes nil i s = let e : i ≡ i + 0 = omega arith in none e
    stored_row_denotes (cons t ts) i s =
        let e : i + (size t + sizes ts) ≡ (i + size t) + sizes ts = omega arith in
        let r : RowDenotes nodes stored_sizes Value (i + get_or stored_sizes i 0) (i + (size t + sizes ts)) (insts ρ ts) = rw (size_there t (row_head s), e) (stored_row_denotes ts (i + size t) (row_tail s)) in
        more (stored_denotes t i (row_head s)) r

  -- The subterm at a position.
  mutual
    unfolding size subterms

    pub stored_subterm : (t : Term) (i p : ℕ) (d : Term) → TermStored i t → p < size t → TermStored (i + p) (get_or (subterms t) p d)
    stored_subterm (var v) i zero d s h = let e : i + 0 ≡ i = omega arith in rw e s
    stored_subterm (var v) i (suc p) d s h = absurd (omega arith)
    stored_subterm (app f ts) i zero d s h = let e : i + 0 ≡ i = omega arith in rw e s
    stored_subterm (app f ts) i (suc p) d s h = let e : i + suc p ≡ (i + 1) + p = omega arith in rw e (stored_row_subterm ts (i + 1) p d (stored_arguments s) (omega arith))

    pub stored_row_subterm : (ts : Terms) (i p : ℕ) (d : Term) → TermsStored i ts → p < sizes ts → TermStored (i + p) (get_or (subterms_of ts) p d)
    stored_row_subterm nil i p d s h = absurd (omega arith)
    stored_row_subterm (cons t ts) i p d s h =
        elim (dec_lt p (size t)) [
          | yes l ↦ rw (subterm_first t ts p d l) (stored_subterm t i p d (row_head s) l)
          | no m ↦
              let l : size t ≤ p = omega arith in
              let e : i + p ≡ (i + size t) + (p - size t) = omega arith in
              rw (e, subterm_rest t ts p d l) (stored_row_subterm ts (i + size t) (p - size t) d (row_tail s) (omega arith))
        ]

-- An instance of a ground term is the term.
mutual
  unfolding inst

  pub ground_inst : (arities : List ℕ) (ρ : Values) (t : Term) → Ground arities t → inst ρ t ≡ t
  ground_inst arities ρ (var v) g = absurd g
  ground_inst arities ρ (app f ts) g = ap (app f) (ground_insts arities ρ ts g.2)

  pub ground_insts : (arities : List ℕ) (ρ : Values) (ts : Terms) → Grounds arities ts → insts ρ ts ≡ ts
  ground_insts arities ρ nil g = refl
  ground_insts arities ρ (cons t ts) g = cc (ground_inst arities ρ t g.0, ground_insts arities ρ ts g.1)

-- Ground terms that are stored stand there.
pub ground_row_denotes : (arities : List ℕ) → length arities ≤ max_symbols → {nodes stored_sizes : List ℕ} {i : ℕ} (ts : Terms) → Grounds arities ts
    → PartAt nodes i (prefixes ts) → PartAt stored_sizes i (map size (subterms_of ts)) → i + sizes ts ≤ node_count
    → RowDenotes nodes stored_sizes (λ v t. ⊥) i (i + sizes ts) ts
ground_row_denotes arities known {nodes} {stored_sizes} {i} ts g a b h =
    let r = stored_row_denotes arities known nodes stored_sizes (λ v t. ⊥) var (λ v. ⊥) (λ v l. absurd l) ts i (record {
      fit = grounds_fit arities ts g;
      few = grounds_no_variable arities ts g;
      bytes = a;
      sizes_there = b;
      within = h;
    }) in
    rw (ground_insts arities var ts g) at r

-- Each part of a stored ground term is ground and stored at its position.
pub part_stored : {nodes sizes arities : List ℕ} {i : ℕ} {t : Term} → GroundStored nodes sizes arities i t → (p : ℕ) → p < size t → GroundStored nodes sizes arities (i + p) (get_or (subterms t) p (var 0))
part_stored {nodes} {sizes} {arities} {i} {t} g p h =
    let s = stored_subterm arities g.few_symbols nodes sizes (λ v u. ⊥) var (λ v. ⊥) (λ v x. absurd x) t i p (var 0) (record {
      fits = ground_fits arities t g.is_ground;
      few = ground_no_variable arities t g.is_ground;
      bytes = g.stored.bytes;
      sizes_there = g.stored.sizes_there;
      within = g.within;
    }) h in
    record {
      few_symbols = g.few_symbols;
      is_ground = no_variable_ground arities (get_or (subterms t) p (var 0)) s.fits s.few;
      stored = record { bytes = s.bytes; sizes_there = s.sizes_there };
      low = omega (arith, g.low);
      within = s.within;
    }
