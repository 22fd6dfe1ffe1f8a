-- What a scan that refuses nothing has read: as many terms as were asked for, over the sheet's symbols, within the room.
use Prim.Native.Nat.{ℕ, zero, suc, ◌+◌, ◌≤◌, ◌<◌}
use Rattle.std.proofs.Math.Path.{◌≡◌, refl, ap}
use Rattle.std.proofs.Common.{sym, ◌∙◌, ltb-true, arith}
use Rattle.std.specs.Prelude.{Bool, length}
use Rattle.std.proofs.Math.Bool.{true, false}
use mathlib.Core.List.{List, [], ◌∷◌, ◌++◌}
use Rattle.std.proofs.Math.Dec.{ltb}
use Rattle.format.specs.Limits.{variable_count}
use Rattle.format.specs.Refusal.{Result, refuse, give}
use Rattle.format.specs.declared.refusal.Refusal.TheVariants.{FrameBytes as frame_bytes}
use Rattle.format.specs.Byte.{class_of}
use Rattle.format.specs.declared.byte.Class.{Class}
use Rattle.format.specs.declared.byte.Class.TheVariants.{Symbol as symbol, Variable as variable, Foreign as foreign}
use Rattle.format.specs.Theory.Byte.{class_symbol, class_variable}
use Rattle.terms.specs.Term.{Terms, var, app, nil, cons, size, sizes, count, arity, Grounds}
use Rattle.terms.specs.Prefix.{prefix, prefixes, take_terms, drop_terms}
use Rattle.terms.specs.ForContracts.Fits.{AllFit}
use Rattle.terms.specs.Theory.Prefix.{take_drop_terms, count_take, count_drop, sizes_take_drop, fit_take_drop, ground_take_drop, prefixes_append}
use Rattle.sheet.specs.Frame.{after_node, scan}

abbrev pub GroundIf : Bool → List ℕ → Terms → Type 0
GroundIf true arities ts = Grounds arities ts
GroundIf false arities ts = Unit {0}

-- `bs` spells `need` terms, of at most `room` nodes, and then `rest`.
pub record Spells (arities : List ℕ) (is_ground : Bool) (bs : List ℕ) (need room : ℕ) (rest : List ℕ) : Type 0 where
  pub terms : Terms
  pub counted : count terms ≡ need
  pub spelled : bs ≡ prefixes terms ++ rest
  pub within : sizes terms ≤ room
  pub fit : AllFit arities terms
  pub grounded : GroundIf is_ground arities terms

module _ (arities : List ℕ) where
  -- A symbol's node takes its arguments from the terms behind it.
  put_symbol : (is_ground : Bool) (f : ℕ) (bs : List ℕ) (need room : ℕ) (rest : List ℕ) → f < length arities
      → Spells arities is_ground bs (arity arities f + need) room rest
      → Spells arities is_ground (f ∷ bs) (suc need) (suc room) rest
  unfolding count size prefix
  put_symbol is_ground f bs need room rest known s =
      let n = arity arities f in
      let ts = s.terms in
      let (fa, fd) = fit_take_drop arities n ts s.fit in
      let c : count (take_terms n ts) ≡ n = count_take n ts (omega (arith, s.counted)) in
      record {
        terms = cons (app f (take_terms n ts)) (drop_terms n ts);
        counted = omega (arith, count_drop n ts, s.counted);
        spelled = ap (f ∷◌) (s.spelled ∙ ap (λ us. prefixes us ++ rest) (sym (take_drop_terms n ts)) ∙ ap (◌++ rest) (prefixes_append (take_terms n ts) (drop_terms n ts)));
        within = omega (arith, sizes_take_drop n ts, s.within);
        fit = ((known, c, fa), fd);
        grounded = grounds is_ground n ts c s.grounded;
      }
    where
      grounds : (g : Bool) (n : ℕ) (ts : Terms) → count (take_terms n ts) ≡ arity arities f → GroundIf g arities ts
          → GroundIf g arities (cons (app f (take_terms n ts)) (drop_terms n ts))
      grounds true n ts c h = let (a, d) = ground_take_drop arities n ts h in ((known, c, a), d)
      grounds false n ts c h = tt

  put_variable : (v : ℕ) (bs : List ℕ) (need room : ℕ) (rest : List ℕ) (b : ℕ) → b ∷ [] ≡ prefix (var v) → v < variable_count
      → Spells arities false bs need room rest
      → Spells arities false (b ∷ bs) (suc need) (suc room) rest
  unfolding count size prefix
  put_variable v bs need room rest b e small s = record {
    terms = cons (var v) s.terms;
    counted = omega (arith, s.counted);
    spelled = ap (b ∷◌) s.spelled ∙ ap (◌++ (prefixes s.terms ++ rest)) e;
    within = omega (arith, s.within);
    fit = (small, s.fit);
    grounded = tt;
  }

  -- One node in front of a scan.
  put_node_byte : (is_ground : Bool) (b : ℕ) (c : Class) (bs : List ℕ) (need n room : ℕ) (rest : List ℕ) → class_of b ≡ c
      → after_node arities is_ground c need ≡ give n → Spells arities is_ground bs n room rest
      → Spells arities is_ground (b ∷ bs) (suc need) (suc room) rest
  unfolding after_node prefix
  put_node_byte is_ground b (symbol f) bs need n room rest e d s = go (ltb f (length arities)) refl d
    where
      go : (t : Bool) → ltb f (length arities) ≡ t → elim t as (λ t. Result ℕ) [ true ↦ give (arity arities f + need) | false ↦ refuse frame_bytes ] ≡ give n
          → Spells arities is_ground (b ∷ bs) (suc need) (suc room) rest
      go true k d =
          let x : arity arities f + need ≡ n = cc in
          rw (class_symbol b f e).0 (put_symbol is_ground f bs need room rest (ltb-true f (length arities) k) (rw x s))
      go false k d = let z : ◌≡◌ {A = ℕ} 0 1 = cc in absurd (omega arith)
  put_node_byte true b (variable v) bs need n room rest e d s = let z : ◌≡◌ {A = ℕ} 0 1 = cc in absurd (omega arith)
  put_node_byte false b (variable v) bs need n room rest e d s =
      let x : need ≡ n = cc in
      let (y, small) = class_variable b v e in
      put_variable v bs need room rest b (ap (◌∷ []) y) small (rw x s)
  put_node_byte is_ground b foreign bs need n room rest e d s = let z : ◌≡◌ {A = ℕ} 0 1 = cc in absurd (omega arith)

  nothing_scanned : (is_ground : Bool) (bs : List ℕ) (room : ℕ) (rest : List ℕ) → ◌≡◌ {A = Result (List ℕ)} (give bs) (give rest)
      → Spells arities is_ground bs 0 room rest
  unfolding count size prefix
  nothing_scanned is_ground bs room rest e = record { terms = nil; counted = refl; spelled = cc; within = omega arith; fit = tt; grounded = trivial is_ground }
    where
      trivial : (g : Bool) → GroundIf g arities nil
      trivial true = tt
      trivial false = tt

  pub scan_sound : (is_ground : Bool) (bs : List ℕ) (need room : ℕ) (rest : List ℕ) → scan arities is_ground bs need room ≡ give rest
      → Spells arities is_ground bs need room rest
  unfolding scan
  scan_sound is_ground [] zero room rest e = nothing_scanned is_ground [] room rest e
  scan_sound is_ground [] (suc need) room rest e = let z : ◌≡◌ {A = ℕ} 0 1 = cc in absurd (omega arith)
  scan_sound is_ground (b ∷ bs) zero room rest e = nothing_scanned is_ground (b ∷ bs) room rest e
  scan_sound is_ground (b ∷ bs) (suc need) zero rest e = let z : ◌≡◌ {A = ℕ} 0 1 = cc in absurd (omega arith)
  scan_sound is_ground (b ∷ bs) (suc need) (suc room) rest e = go (λ n d. scan_sound is_ground bs n room rest d) (after_node arities is_ground (class_of b) need) refl e
    where
      go : ((n : ℕ) → scan arities is_ground bs n room ≡ give rest → Spells arities is_ground bs n room rest)
          → (r : Result ℕ) → after_node arities is_ground (class_of b) need ≡ r
          → elim r as (λ r. Result (List ℕ)) [ refuse x ↦ refuse x | give n ↦ scan arities is_ground bs n room ] ≡ give rest
          → Spells arities is_ground (b ∷ bs) (suc need) (suc room) rest
      go ih (refuse x) d e = let z : ◌≡◌ {A = ℕ} 0 1 = cc in absurd (omega arith)
      go ih (give n) d e = put_node_byte is_ground b (class_of b) bs need n room rest refl d (ih n e)
