-- The record of a line among those that stand first in scratch.
use Prim.Native.Nat.{ℕ, zero, suc, ◌+◌, ◌-◌, ◌*◌, ◌<◌}
use mathlib.Core.Path.{◌≡◌, refl, sym, ap, ◌∙◌}
use mathlib.Core.List.{List, [], ◌∷◌, ◌++◌, map, append_assoc}
use native.Mathlib.Omega.{arith}
use lib.ListN.{length, get_or, take, drop, length-append, take-append-drop}
use lib.Seq.{take_at, drop_at}
use Rattle.format.specs.Limits.{record_bytes}
use Rattle.terms.specs.Equation.{Equation}
use Rattle.solving.specs.Line.{Bindings, Element, Line, line, record_of, records}
use Rattle.solving.specs.ForContracts.Written.{WrittenLine, WrittenLines}
use Rattle.solving.specs.Theory.Records.{length_record}
use Rattle.listing.specs.Listing.{line_frame}

-- Line `k` of these: its record among theirs, and its frame among theirs.
pub record LineAt (n : ℕ) (ls : List Line) (k : ℕ) : Type 0 where
  pub bindings : Bindings
  pub elements : List Element
  pub written : WrittenLine n bindings elements
  pub before : List ℕ
  pub after : List ℕ
  pub split : records ls ≡ before ++ (record_of (line bindings elements) ++ after)
  pub start : length before ≡ k * record_bytes
  pub frame : (e : Equation) → get_or (map (line_frame e) ls) k [] ≡ line_frame e (line bindings elements)

pub line_at : (n : ℕ) (ls : List Line) → WrittenLines n ls → (k : ℕ) → k < length ls → LineAt n ls k
unfolding records
line_at n [] w k h = absurd (omega arith)
line_at n (line θ es ∷ ls) w zero h = record { bindings = θ; elements = es; written = w.0; before = []; after = records ls; split = refl; start = refl; frame = λ e. refl }
line_at n (line θ es ∷ ls) w (suc k) h =
    let l = line_at n ls w.1 k (omega arith) in
    let this = record_of (line θ es) in
    record {
      bindings = l.bindings;
      elements = l.elements;
      written = l.written;
      before = this ++ l.before;
      after = l.after;
      split = ap (this ++◌) l.split ∙ sym (append_assoc this l.before (record_of (line l.bindings l.elements) ++ l.after));
      start = omega (arith, length-append this l.before, length_record θ es w.0, l.start);
      frame = l.frame;
    }

-- Where the records stand first in scratch, the bytes of line `k` are its record.
pub record_there : {n : ℕ} {ls : List Line} {k : ℕ} (m : ℕ) (scratch : List ℕ) → take m scratch ≡ records ls → (l : LineAt n ls k)
    → take (k * record_bytes + record_bytes - k * record_bytes) (drop (k * record_bytes) scratch) ≡ record_of (line l.bindings l.elements)
record_there {ls = ls} {k} m scratch x l =
    let this = record_of (line l.bindings l.elements) in
    let rest = l.after ++ drop m scratch in
    let size : length this ≡ k * record_bytes + record_bytes - k * record_bytes = omega (arith, length_record l.bindings l.elements l.written) in
    let whole : scratch ≡ l.before ++ (this ++ rest) =
    sym (take-append-drop m scratch)
    ∙ (ap (◌++ drop m scratch) (x ∙ l.split)
    ∙ (append_assoc l.before (this ++ l.after) (drop m scratch) ∙ ap (l.before ++◌) (append_assoc this l.after (drop m scratch)))) in
    ap (λ s. take (k * record_bytes + record_bytes - k * record_bytes) (drop (k * record_bytes) s)) whole
    ∙ (ap (take (k * record_bytes + record_bytes - k * record_bytes)) (drop_at l.before (this ++ rest) (k * record_bytes) l.start) ∙ take_at this rest (k * record_bytes + record_bytes - k * record_bytes) size)
