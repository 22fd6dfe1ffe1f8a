-- `push_choices` meets its contract: the lines of the arguments' choices, and behind them those of the last ones.
use Prim.Native.Nat.{◌+◌, ◌*◌}
use mathlib.Core.Path.{◌≡◌, refl, ◌∙◌}
use native.Mathlib.Omega.{arith}
use lib.ListN.{length, set, length-set}
use Rattle.line_bytes.specs.ForContracts.Layout.{first_element, reduced_place}
use Rattle.treating.proofs.Splitting.{positive, room_for, line_long, arguments_fit, only_arguments, room_fits, exceeding_fits, one_more_fits, pushed_more, lexicographic_fits, pushed_same}
use Rattle.treating.proofs.split.push_choices.Goals as goal
use Rattle.treating.proofs.split.push_choices.Goals.{After-fill_exceeding}

pub bounds-line-93 : goal.bounds-line-93
bounds-line-93 c = omega (arith, line_long c.requires.facts)

pub push_arguments-next-requires : goal.push_arguments-next-requires
push_arguments-next-requires c =
    let choices = c.args.choices in
    let line₁ = set c.args.line.now reduced_place choices.at in
    let place = 2 * choices.at + first_element in
    arguments_fit c.requires.facts line₁ c.args.memory.now c.args.to place refl refl c.requires.room

pub returns-then-choices-eq0 : goal.returns-then-choices-eq0
returns-then-choices-eq0 c =
    let choices = c.args.choices in
    let line₁ = set c.args.line.now reduced_place choices.at in
    let place = 2 * choices.at + first_element in
    record { pushes = λ bindings pre post ss ts s. only_arguments s line₁ c.args.memory.now c.push_arguments-next.new.records c.args.to place c.push_arguments-next.result refl refl c.push_arguments-next.ensures c.if-choices-eq0.true }

pub make_room-requires : goal.make_room-requires
make_room-requires c =
    let choices = c.args.choices in
    let line₁ = set c.args.line.now reduced_place choices.at in
    room_fits c.requires.facts line₁ refl (positive c.if-choices-eq0.false)

pub fill_exceeding-requires : goal.fill_exceeding-requires
fill_exceeding-requires c =
    let choices = c.args.choices in
    let place = 2 * choices.at + first_element in
    exceeding_fits c.requires.facts c.make_room.new.line place (c.make_room.auto.line ∙ (length-set c.args.line.now reduced_place choices.at ∙ line_long c.requires.facts)) refl (positive c.if-choices-eq0.false)

-- The line keeps its length.
line_kept : (c : After-fill_exceeding) → length c.fill_exceeding.new.line ≡ length c.args.line.now
line_kept c = c.fill_exceeding.auto.line ∙ (c.make_room.auto.line ∙ length-set c.args.line.now reduced_place c.args.choices.at)

pub store-requires : goal.store-requires
store-requires c =
    let choices = c.args.choices in
    let line₁ = set c.args.line.now reduced_place choices.at in
    let place = 2 * choices.at + first_element in
    (one_more_fits c.requires.facts line₁ c.make_room.new.line c.fill_exceeding.new.line c.args.memory.now c.push_arguments-next.new.records c.args.to place c.push_arguments-next.result refl refl (positive c.if-choices-eq0.false) c.requires.room c.push_arguments-next.ensures c.make_room.ensures c.fill_exceeding.ensures, line_kept (goal.at.store-requires c).After-fill_exceeding ∙ line_long c.requires.facts)

pub returns-then-choices : goal.returns-then-choices
returns-then-choices c =
    let choices = c.args.choices in
    let line₁ = set c.args.line.now reduced_place choices.at in
    let place = 2 * choices.at + first_element in
    record { pushes = λ bindings pre post ss ts s. pushed_more s line₁ c.make_room.new.line c.fill_exceeding.new.line c.args.memory.now c.push_arguments-next.new.records c.args.to place c.push_arguments-next.result refl refl (positive c.if-choices-eq0.false) (room_for s c.requires) c.push_arguments-next.ensures c.make_room.ensures c.fill_exceeding.ensures c.store.new.records c.if-choices.true c.store.ensures }

pub push_lexicographic-requires : goal.push_lexicographic-requires
push_lexicographic-requires c =
    let choices = c.args.choices in
    let line₁ = set c.args.line.now reduced_place choices.at in
    let place = 2 * choices.at + first_element in
    lexicographic_fits c.requires.facts line₁ c.make_room.new.line c.fill_exceeding.new.line c.args.memory.now c.push_arguments-next.new.records c.args.to place c.push_arguments-next.result refl refl (positive c.if-choices-eq0.false) c.requires.room c.push_arguments-next.ensures c.make_room.ensures c.fill_exceeding.ensures c.if-choices.false (line_kept (goal.at.push_lexicographic-requires c).After-fill_exceeding ∙ line_long c.requires.facts)

pub returns : goal.returns
returns c =
    let choices = c.args.choices in
    let line₁ = set c.args.line.now reduced_place choices.at in
    let place = 2 * choices.at + first_element in
    record { pushes = λ bindings pre post ss ts s. pushed_same s line₁ c.make_room.new.line c.fill_exceeding.new.line c.args.memory.now c.push_arguments-next.new.records c.args.to place c.push_arguments-next.result refl refl (positive c.if-choices-eq0.false) (room_for s c.requires) c.push_arguments-next.ensures c.make_room.ensures c.fill_exceeding.ensures c.push_lexicographic.new.records c.push_lexicographic.result c.if-choices.false c.push_lexicographic.ensures }
