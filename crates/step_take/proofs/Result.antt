-- The bytes of the subject with a part replaced: those before the part, those of the instance, and those behind the part.
use Prim.Native.Nat.{ℕ, ◌+◌, ◌-◌, ◌≤◌}
use mathlib.Core.Path.{◌≡◌, sym, ap, ◌∙◌}
use mathlib.Core.List.{List, ◌++◌, append_assoc}
use native.Mathlib.Omega.{arith}
use lib.ListN.{length, get_or, take, drop, length-append}
use lib.Seq.{take_at, drop_at, drop-drop}
use Rattle.format.specs.Limits.{position_count, max_task_nodes, node_count}
use Rattle.format.specs.Buffer.{written}
use Rattle.terms.specs.Term.{Term, var, size, Values, inst}
use Rattle.terms.specs.Position.{subterms, replace}
use Rattle.terms.specs.Prefix.{prefix}
use Rattle.terms.specs.declared.arguments.Arguments.{Arguments}
use Rattle.terms.specs.Theory.Prefix.{length_prefix}
use Rattle.terms.specs.Theory.Replace.{Around, around, around_part, size_replace, size_around}
use Rattle.terms.specs.Theory.Stored.{stored_size}
use Rattle.step_take.specs.ForContracts.Replacing.{ReplacementIs}
use Rattle.step_take.proofs.Written.{to_end, Front, written_behind}

-- What the code has to know of the part: that its reads and its copies are in range.
pub record Bounds (nodes sizes : List ℕ) (node n : ℕ) : Type 0 where
  pub low : position_count ≤ node
  pub inside : (node - position_count) + get_or sizes node 0 ≤ n
  pub few : n ≤ max_task_nodes
  pub nodes_length : length nodes ≡ node_count
  pub sizes_length : length sizes ≡ node_count

module _ {bytes : List ℕ} {side : Arguments} {arities nodes sizes values : List ℕ} {node n : ℕ} {subject t : Term} {ρ : Values} {p : ℕ}
    (r : ReplacementIs bytes side arities nodes sizes values node n subject t ρ p) where
  abbrev part : Term
  part = get_or (subterms subject) p (var 0)

  outside : Around subject p
  outside = around subject p r.inside

  part_size : get_or sizes node 0 ≡ size part
  part_size = ap (λ i. get_or sizes i 0) r.there ∙ stored_size subject r.stands.stored.stored.sizes_there p (var 0) r.inside

  subject_size : n ≡ p + (get_or sizes node 0 + length outside.after)
  subject_size = r.counted ∙ (size_around outside (var 0) r.inside ∙ ap (λ k. p + (k + length outside.after)) (sym part_size))

  pub result_size : n - get_or sizes node 0 + size (inst ρ t) ≡ size (replace subject p (inst ρ t))
  result_size = omega (arith, subject_size, size_replace outside (inst ρ t))

  pub bounds : Bounds nodes sizes node n
  bounds = record {
    low = omega (arith, r.there);
    inside = omega (arith, r.there, subject_size);
    few = omega (arith, r.counted, r.stands.stored.within);
    nodes_length = r.stands.nodes_length;
    sizes_length = r.stands.sizes_length;
  }

  pub instance_room : (node - position_count) + size (inst ρ t) ≤ size (replace subject p (inst ρ t))
  instance_room = omega (arith, r.there, size_replace outside (inst ρ t))

  -- The subject's bytes.
  abbrev behind : List ℕ
  behind = r.stands.stored.stored.bytes.rest

  abbrev from_part : List ℕ
  from_part = prefix part ++ (outside.after ++ behind)

  subject_bytes : drop position_count nodes ≡ outside.before ++ from_part
  subject_bytes =
      r.stands.stored.stored.bytes.is
      ∙ (ap (◌++ behind) (around_part outside (var 0) r.inside)
      ∙ (append_assoc outside.before (prefix part ++ outside.after) behind ∙ ap (outside.before ++◌) (append_assoc (prefix part) outside.after behind)))

  bytes_before : take (node - position_count) (take (length nodes - position_count) (drop position_count nodes)) ≡ outside.before
  bytes_before =
      ap (take (node - position_count)) (to_end position_count nodes ∙ subject_bytes)
      ∙ take_at outside.before from_part (node - position_count) (omega (arith, outside.start, r.there))

  bytes_behind : (old : ℕ) → old ≡ get_or sizes node 0
      → take (n - (node - position_count) - old) (take (length nodes - (node + old)) (drop (node + old) nodes)) ≡ outside.after
  bytes_behind old o =
      let a : node + old ≡ position_count + (p + old) = omega (arith, r.there) in
      let b : length (outside.before ++ prefix part) ≡ p + old = length-append outside.before (prefix part) ∙ omega (arith, outside.start, length_prefix part, part_size) in
      let c : drop (node + old) nodes ≡ outside.after ++ behind =
      ap (λ k. drop k nodes) a
      ∙ (sym (drop-drop (p + old) position_count nodes)
      ∙ (ap (drop (p + old)) (subject_bytes ∙ sym (append_assoc outside.before (prefix part) (outside.after ++ behind)))
      ∙ drop_at (outside.before ++ prefix part) (outside.after ++ behind) (p + old) b)) in
      ap (take (n - (node - position_count) - old)) (to_end (node + old) nodes ∙ c)
      ∙ take_at outside.after behind (n - (node - position_count) - old) (omega (arith, subject_size, r.there))

  -- The three copies, each behind the one before.
  module _ (result first middle last : List ℕ) (old new : ℕ) (o : old ≡ get_or sizes node 0)
      (a : first ≡ written (take (node - position_count) (take (length nodes - position_count) (drop position_count nodes))) result)
      (b : (new ≡ size (inst ρ t)) × (middle ≡ written (prefix (inst ρ t)) (take (length first - (node - position_count)) (drop (node - position_count) first)))) where
    abbrev at : ℕ
    at = node - position_count

    abbrev second : List ℕ
    second = take at first ++ (middle ++ drop (length first - at) (drop at first))

    first_put : Front outside.before result first at
    first_put = record { stands = a ∙ ap (λ bs. written bs result) bytes_before; counted = omega (arith, outside.start, r.there) }

    second_put : Front (outside.before ++ prefix (inst ρ t)) result second (at + new)
    second_put = written_behind first_put (prefix (inst ρ t)) middle new (b.0 ∙ sym (length_prefix (inst ρ t))) b.1

    pub result_put : last ≡ written (take (n - at - old) (take (length nodes - (node + old)) (drop (node + old) nodes))) (take (length second - (at + new)) (drop (at + new) second))
        → take (at + new) second ++ (last ++ drop (length second - (at + new)) (drop (at + new) second)) ≡ written (prefix (replace subject p (inst ρ t))) result
    result_put e =
        let c : last ≡ written outside.after (take (length second - (at + new)) (drop (at + new) second)) =
        e ∙ ap (λ bs. written bs (take (length second - (at + new)) (drop (at + new) second))) (bytes_behind old o) in
        let d : n - at - old ≡ length outside.after = omega (arith, subject_size, r.there) in
        (written_behind second_put outside.after last (n - at - old) d c).stands
        ∙ ap (λ bs. written bs result) (append_assoc outside.before (prefix (inst ρ t)) outside.after ∙ sym (outside.with (inst ρ t)))
