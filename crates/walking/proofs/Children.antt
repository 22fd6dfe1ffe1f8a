-- The lines that replace a line: what they say, that they are sound, and their bytes.
use Prim.Native.Nat.{ℕ, ◌+◌, ◌≤◌, ◌<◌}
use mathlib.Core.Path.{◌≡◌, refl, ap, ◌∙◌}
use mathlib.Core.Bool.{Bool, true, false, ◌||◌}
use mathlib.Core.Option.{some}
use mathlib.Core.List.{List, [], ◌∷◌, ◌++◌, map}
use lib.ListN.{length, length-append}
use lib.Seq.{take-append_seam}
use borrow.Author.Tests.{lt-ltb}
use native.Mathlib.Omega.{arith}
use Rattle.format.specs.Lists.{any, Every}
use Rattle.format.specs.Limits.{variable_count, max_elements}
use Rattle.format.specs.Theory.Lists.{every_left, every_right, every_append}
use Rattle.solving.specs.Line.{Bindings, Element, Line, line}
use Rattle.solving.specs.Walk.{enough, becomes, treat, treat_line, crowded}
use Rattle.solving.proofs.Theory.Reach.{enough_suffices}
use Rattle.solving.specs.ForContracts.Within.{Within, AllWithin}
use Rattle.solving.proofs.Theory.Table.{ProperTable, treat_proper}
use Rattle.bindings.specs.ForContracts.PrefixForm.{view_of}
use Rattle.bindings.specs.ForContracts.Bindings.{bindings_of, Readable}
use Rattle.line_bytes.specs.ForContracts.Resting.{RestingLine, line_of}
use Rattle.walking.specs.ForContracts.WellFormed.{KnownReduced, WellFormed}
use Rattle.walking.specs.ForContracts.Walking.{AllWellFormed}
use Rattle.treating.specs.ForContracts.Children.{child}
use Rattle.treating.specs.ForContracts.Splitting.{AllLong}
use Rattle.bindings.specs.Theory.PrefixForm.{form_layout}
use Rattle.walking.proofs.Turn.{around, leftmost_some}

-- 1. What they say.
pub first_treated : (nodes sizes : List ℕ) (l : RestingLine) (pre : List Element) (e : Element) (post : List Element) (ms : List Line) → l.elements ≡ pre ++ (e ∷ post)
    → KnownReduced nodes sizes l.bindings pre → treat enough (view_of nodes sizes) (bindings_of l.bindings) e ≡ becomes ms
    → treat_line enough (view_of nodes sizes) (line_of l) ≡ some (map (around pre post) ms)
unfolding line_of treat_line
first_treated nodes sizes l pre e post ms s r t =
    rw s (leftmost_some (view_of nodes sizes) (bindings_of l.bindings) pre e post ms r t)

pub children_lines : (bs : List ℕ) (pre post : List Element) (css : List (List Element))
    → map line_of (map (child bs pre post) css) ≡ map (around pre post) (map (line (bindings_of bs)) css)
unfolding line_of around
children_lines bs pre post [] = refl
children_lines bs pre post (cs ∷ css) = ap (line (bindings_of bs) (pre ++ (cs ++ post)) ∷◌) (children_lines bs pre post css)

module _ {nodes sizes : List ℕ} (l : RestingLine) (s : WellFormed nodes sizes l) (pre : List Element) (e : Element) (post : List Element) (split : l.elements ≡ pre ++ (e ∷ post)) where
  pre_within : AllWithin (length nodes) pre
  pre_within = every_left (Within (length nodes)) pre (e ∷ post) (rw split at s.within)

  post_within : AllWithin (length nodes) post
  post_within = (every_right (Within (length nodes)) pre (e ∷ post) (rw split at s.within)).1

  pub element_within : Within (length nodes) e
  element_within = (every_right (Within (length nodes)) pre (e ∷ post) (rw split at s.within)).0

  pub length_split : length l.elements ≡ length pre + (1 + length post)
  length_split = ap length split ∙ omega (arith, length-append pre (e ∷ post))

  -- With the bindings of the line.
  pub child_well_formed : KnownReduced nodes sizes l.bindings pre → (cs : List Element) → AllWithin (length nodes) cs → length pre + (length cs + length post) ≤ max_elements
      → WellFormed nodes sizes (child l.bindings pre post cs)
  child_well_formed r cs w k =
      let a = length-append cs post in
      let b = length-append pre (cs ++ post) in
      record {
        readable = s.readable;
        within = every_append (Within (length nodes)) pre (cs ++ post) pre_within (every_append (Within (length nodes)) cs post w post_within);
        few = omega arith;
        known = omega arith;
        reduced_known = rw (take-append_seam pre (cs ++ post)) r;
      }

  -- With other bindings, under which no element has been looked at.
  pub rebound_well_formed : (bs : List ℕ) → Readable nodes sizes bs → WellFormed nodes sizes (record { bindings = bs; elements = pre ++ post; reduced = 0 })
  rebound_well_formed bs r =
      record {
        readable = r;
        within = every_append (Within (length nodes)) pre post pre_within post_within;
        few = omega (arith, length-append pre post, length_split, s.few);
        known = omega arith;
        reduced_known = tt;
      }

  -- The choices that the treatment of an inequality gives.
  abbrev pub Fitting : List (List Element) → Type 0
  Fitting = Every (λ cs. length pre + (length cs + length post) ≤ max_elements)

  lines_well_formed : KnownReduced nodes sizes l.bindings pre → (css : List (List Element)) → ProperTable (view_of nodes sizes) variable_count (length nodes) (map (line (bindings_of l.bindings)) css) → Fitting css
      → AllWellFormed nodes sizes (map (child l.bindings pre post) css)
  lines_well_formed r [] p f = tt
  lines_well_formed r (cs ∷ css) p f = (child_well_formed r cs p.0.1 f.0, lines_well_formed r css p.1 f.1)

  pub children_well_formed : KnownReduced nodes sizes l.bindings pre → (css : List (List Element)) → treat enough (view_of nodes sizes) (bindings_of l.bindings) e ≡ becomes (map (line (bindings_of l.bindings)) css)
      → Fitting css → AllWellFormed nodes sizes (map (child l.bindings pre post) css)
  children_well_formed r css t f =
      lines_well_formed r css
      (treat_proper (form_layout s.readable.laid) (enough_suffices s.readable.laid.few) (bindings_of l.bindings) e (map (line (bindings_of l.bindings)) css) s.readable.proper element_within t)
      f

  pub fitting_append : (xs ys : List (List Element)) → Fitting xs → Fitting ys → Fitting (xs ++ ys)
  fitting_append [] ys f g = g
  fitting_append (cs ∷ xs) ys f g = (f.0, fitting_append xs ys f.1 g)

  -- All choices of one length.
  pub fitting_all : (n : ℕ) (css : List (List Element)) → AllLong n css → length pre + (n + length post) ≤ max_elements → Fitting css
  fitting_all n [] h k = tt
  fitting_all n (cs ∷ css) h k = (omega (arith, h.0), fitting_all n css h.1 k)

-- 3. Choices that make a line too long.
pub crowded_one : (θ : Bindings) (pre post cs : List Element) → max_elements < length pre + (length cs + length post) → crowded (around pre post (line θ cs)) ≡ true
unfolding crowded around
crowded_one θ pre post cs h = let a = length-append pre (cs ++ post) in let b = length-append cs post in lt-ltb max_elements (length (pre ++ (cs ++ post))) (omega arith)

pub crowded_first : (θ : Bindings) (pre post cs : List Element) (xs ys : List (List Element)) → max_elements < length pre + (length cs + length post)
    → any crowded (map (around pre post) (map (line θ) (xs ++ (cs ∷ ys)))) ≡ true
unfolding any
crowded_first θ pre post cs [] ys h = rw (crowded_one θ pre post cs h, any)
crowded_first θ pre post cs (x ∷ xs) ys h = go (crowded (around pre post (line θ x))) (crowded_first θ pre post cs xs ys h)
  where
    go : (b : Bool) → any crowded (map (around pre post) (map (line θ) (xs ++ (cs ∷ ys)))) ≡ true → (b || any crowded (map (around pre post) (map (line θ) (xs ++ (cs ∷ ys))))) ≡ true
    go true k = refl
    go false k = k
