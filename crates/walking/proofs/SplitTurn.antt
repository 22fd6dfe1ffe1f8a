-- The turn that replaces a line by one line per choice.
use Prim.Native.Nat.{ℕ, ◌+◌, ◌-◌, ◌*◌, ◌≤◌, ◌<◌}
use mathlib.Core.Path.{◌≡◌, refl, sym, ap, ap₂, subst, ◌∙◌}
use mathlib.Core.Bool.{true}
use mathlib.Core.Option.{some}
use mathlib.Core.List.{List, [], ◌∷◌, ◌++◌, map}
use lib.ListN.{length, get_or, length-append, length-map}
use lib.Seq.{slice}
use native.Mathlib.Omega.{arith}
use Rattle.format.specs.Lists.{any}
use Rattle.format.specs.Limits.{position_count, max_elements}
use Rattle.format.specs.declared.refusal.Refusal.TheVariants.{TooManyElements as too_many_elements, TooManyLines as too_many_lines}
use Rattle.solving.specs.Line.{Element, greater, Line, line as line_with}
use Rattle.solving.specs.Walk.{enough, becomes, argument_choices, choices, treat, treat_line, crowded}
use Rattle.solving.specs.ForContracts.Within.{Within}
use Rattle.treating.specs.declared.treat.Sides.{Sides}
use Rattle.treating.specs.declared.treat.Treatment.TheVariants.{Split}
use Rattle.treating.specs.declared.split.Choices.{Choices}
use Rattle.walking.specs.declared.walk.Walk.{Walk}
use Rattle.bindings.specs.ForContracts.PrefixForm.{view_of, arguments_of, Row, none, more}
use Rattle.bindings.specs.ForContracts.Bindings.{bindings_of}
use Rattle.line_bytes.specs.ForContracts.Resting.{RestingLine, line_of, resting_bytes}
use Rattle.line_bytes.specs.ForContracts.Layout.{line_bytes, placed}
use Rattle.line_bytes.specs.ForContracts.Room.{lines_bytes}
use Rattle.treating.specs.ForContracts.Treatment.{BothSymbols}
use Rattle.treating.specs.ForContracts.Children.{child}
use Rattle.treating.specs.ForContracts.Splitting.{AllLong, LastChoices, HasChoices, ChoicesOf, Splitting, ChoicesFit, PushesChoices}
use Rattle.walking.specs.ForContracts.Walking.{AllWellFormed, Treating, TreatingCount, GoesOn, Earns}
use Rattle.bindings.specs.Theory.PrefixForm.{arguments_there}
use Rattle.bindings.specs.Theory.Bindings.{readable_slots}
use Rattle.treating.specs.Theory.Choices.{argument_long, argument_count}
use Rattle.treating.specs.Theory.Treatment.{split_becomes}
use Rattle.walking.proofs.Turn.{around}
use Rattle.walking.proofs.Walking.{first_there, well_formed_short, refused_elements, refused_lines, turned}
use Rattle.walking.proofs.Children.{first_treated, children_lines, element_within, length_split, Fitting, children_well_formed, fitting_append, fitting_all, crowded_first}
use Rattle.walking.proofs.Treating.{after_turn, few_elements}

-- There are at most as many terms in a row as it has bytes.
row_fits : {sizes : List ℕ} {k end : ℕ} {ps : List ℕ} → Row sizes k end ps → length ps + k ≤ end
row_fits (none e) = omega arith
row_fits (more h r) = omega (arith, row_fits r)

module _ {nodes sizes memory : List ℕ} {w : Walk} {count at : ℕ} {sides terms : Sides} (c : TreatingCount nodes sizes memory w count at (Split sides terms)) where
  abbrev g : Treating nodes sizes memory w at (Split sides terms)
  g = c.treating

  abbrev s : ℕ
  s = terms.left

  abbrev t : ℕ
  t = terms.right

  pub count_elements : count ≡ length g.pre + (1 + length g.post)
  count_elements = c.count_is ∙ length_split g.first g.holds.all_well_formed.0 g.pre g.element g.post g.split

  both : BothSymbols nodes sizes g.first.bindings g.element sides terms
  both = g.treated.asks

  abbrev left_arguments : List ℕ
  left_arguments = arguments_of sizes s

  abbrev right_arguments : List ℕ
  right_arguments = arguments_of sizes t

  abbrev all_choices : List (List Element)
  all_choices = choices sides.left sides.right (get_or nodes s 0) (get_or nodes t 0) left_arguments right_arguments

  -- What the code may read.
  pub split_sizes : (s < length sizes) × (t < length sizes)
  split_sizes = (omega (arith, both.left_within, g.laid.same_length), omega (arith, both.right_within, g.laid.same_length))

  pub split_ends : (s + get_or sizes s 0 ≤ position_count) × (t + get_or sizes t 0 ≤ position_count)
  split_ends = (omega (arith, g.laid.ends_within s both.left_within, g.laid.few), omega (arith, g.laid.ends_within t both.right_within, g.laid.few))

  pub split_positions : (sides.left < length nodes) × (sides.right < length nodes)
  split_positions =
      let h : Within (length nodes) (greater sides.left sides.right) = rw both.element at (element_within g.first g.holds.all_well_formed.0 g.pre g.element g.post g.split) in
      h

  left_row : Row sizes (s + 1) (s + get_or sizes s 0) left_arguments
  left_row = arguments_there g.laid s both.left_within both.left_symbol

  right_row : Row sizes (t + 1) (t + get_or sizes t 0) right_arguments
  right_row = arguments_there g.laid t both.right_within both.right_symbol

  pub has_choices : HasChoices nodes sizes sides terms
  has_choices = record {
    left_within = both.left_within;
    right_within = both.right_within;
    left_arguments = record { inside = split_sizes.0; row = left_row; within = omega (arith, g.laid.ends_within s both.left_within, g.laid.same_length) };
    right_arguments = record { inside = split_sizes.1; row = right_row; within = omega (arith, g.laid.ends_within t both.right_within, g.laid.same_length) };
    left_low = omega (arith, split_positions.0, g.laid.few);
    right_low = omega (arith, split_positions.1, g.laid.few);
  }

  treated_so : treat enough (view_of nodes sizes) (bindings_of g.first.bindings) g.element ≡ becomes (map (line_with (bindings_of g.first.bindings)) all_choices)
  treated_so = split_becomes both

  abbrev new_lines : List Line
  new_lines = map (around g.pre g.post) (map (line_with (bindings_of g.first.bindings)) all_choices)

  line_treated : treat_line enough (view_of nodes sizes) (line_of g.first) ≡ some new_lines
  line_treated = first_treated nodes sizes g.first g.pre g.element g.post (map (line_with (bindings_of g.first.bindings)) all_choices) g.split g.pre_reduced treated_so

  module _ (d : Choices) (o : ChoicesOf nodes sizes at sides terms d) where
    abbrev left : ℕ
    left = d.left.count

    abbrev right : ℕ
    right = d.right.count

    left_count : left ≡ length left_arguments
    left_count = ap (λ x. x.left.count) o.is

    right_count : right ≡ length right_arguments
    right_count = ap (λ x. x.right.count) o.is

    lasts_are : LastChoices sides.left sides.right (get_or nodes s 0) (get_or nodes t 0) left_arguments right_arguments d.last
    lasts_are = o.count_last_choices.counts sides.left sides.right left_arguments right_arguments refl refl

    choices_number : length all_choices ≡ left + left + d.last
    choices_number =
        ap length lasts_are.are
        ∙ (length-append (argument_choices left_arguments sides.right) lasts_are.lasts
        ∙ omega (arith, argument_count left_arguments sides.right, lasts_are.count, left_count))

    pub choices_few : (left ≤ position_count) × (d.last ≤ position_count + 1)
    choices_few = (omega (arith, left_count, row_fits left_row, split_ends.0), omega (arith, row_fits left_row, split_ends.0, o.count_last_choices.few))

    pub right_few : right ≤ position_count
    right_few = omega (arith, right_count, row_fits right_row, split_ends.1)

    -- A line that is too long: "9 before 10".
    pub split_too_long : 0 < d.last → max_elements < count - 1 + right → Earns nodes sizes w too_many_elements
    split_too_long h k =
        refused_elements nodes sizes memory w g.finished g.first g.others g.holds g.comes c.turns_below new_lines line_treated
        (ap (λ css. any crowded (map (around g.pre g.post) (map (line_with (bindings_of g.first.bindings)) css))) lasts_are.are
        ∙ some_last lasts_are.lasts lasts_are.long lasts_are.count)
      where
        some_last : (css : List (List Element)) → AllLong (length right_arguments) css → length css ≡ d.last
            → any crowded (map (around g.pre g.post) (map (line_with (bindings_of g.first.bindings)) (argument_choices left_arguments sides.right ++ css))) ≡ true
        some_last [] a b = absurd (omega (arith, b))
        some_last (cs ∷ css) a b =
            crowded_first (bindings_of g.first.bindings) g.pre g.post cs (argument_choices left_arguments sides.right) css (omega (arith, a.0, right_count, count_elements))

    module _ (fits : 0 < d.last → count - 1 + right ≤ max_elements) where
      all_fit : Fitting g.first g.holds.all_well_formed.0 g.pre g.element g.post g.split all_choices
      all_fit =
          let f = Fitting g.first g.holds.all_well_formed.0 g.pre g.element g.post g.split in
          subst f (sym lasts_are.are)
          (fitting_append g.first g.holds.all_well_formed.0 g.pre g.element g.post g.split (argument_choices left_arguments sides.right) lasts_are.lasts
          (fitting_all g.first g.holds.all_well_formed.0 g.pre g.element g.post g.split 1 (argument_choices left_arguments sides.right) (argument_long left_arguments sides.right) (few_elements g))
          (last_fit lasts_are.lasts lasts_are.long lasts_are.count))
        where
          last_fit : (css : List (List Element)) → AllLong (length right_arguments) css → length css ≡ d.last → Fitting g.first g.holds.all_well_formed.0 g.pre g.element g.post g.split css
          last_fit [] a b = tt
          last_fit (cs ∷ css) a b =
              fitting_all g.first g.holds.all_well_formed.0 g.pre g.element g.post g.split (length right_arguments) (cs ∷ css) a
              (omega (arith, fits (omega (arith, b)), right_count, count_elements))

      abbrev children : List RestingLine
      children = map (child g.first.bindings g.pre g.post) all_choices

      well_formed_children : AllWellFormed nodes sizes children
      well_formed_children = children_well_formed g.first g.holds.all_well_formed.0 g.pre g.element g.post g.split g.pre_reduced all_choices treated_so all_fit

      -- "10, a table beyond 255 lines after a turn, finished ones counted"
      pub split_too_many : w.top + 1 < w.done + (left + left + d.last) → Earns nodes sizes w too_many_lines
      split_too_many h =
          let e = children_lines g.first.bindings g.pre g.post all_choices in
          let n : length new_lines ≡ left + left + d.last = ap length (sym e) ∙ (length-map children line_of ∙ (length-map all_choices (child g.first.bindings g.pre g.post) ∙ choices_number)) in
          refused_lines nodes sizes memory w g.finished g.first g.others g.holds g.comes c.turns_below new_lines line_treated
          (ap (any crowded) (sym e) ∙ well_formed_short nodes sizes children well_formed_children) (omega (arith, n))

      -- The lines are put.
      split_facts : (line : List ℕ) → line ≡ slice (w.top * line_bytes) (w.top * line_bytes + line_bytes) memory
          → Splitting sizes line d g.first.bindings g.pre g.post left_arguments right_arguments
      split_facts line own = subst (λ x. Splitting sizes line x g.first.bindings g.pre g.post left_arguments right_arguments) (sym o.is) (record {
        element = g.element;
        reduced = g.first.reduced;
        slots = readable_slots g.holds.all_well_formed.0.readable;
        line_is = own ∙ (first_there g.holds ∙ ap (λ es. resting_bytes (record { bindings = g.first.bindings; elements = es; reduced = g.first.reduced })) g.split);
        at_is = g.at_is;
        left_row = left_row;
        right_row = right_row;
        left_within = has_choices.left_arguments.within;
        right_within = has_choices.right_arguments.within;
        few_sizes = omega (arith, g.laid.same_length, g.laid.few);
        count_is = refl;
        last_choices = lasts_are;
        few = few_elements g;
        last_few = λ h. omega (arith, fits h, count_elements, right_count);
      })

      module _ (line : List ℕ) (own : line ≡ slice (w.top * line_bytes) (w.top * line_bytes + line_bytes) memory) (enough_room : w.done + (left + left + d.last) ≤ w.top + 1) where
        abbrev new_place : ℕ
        new_place = w.top + 1 - (left + left + d.last)

        same_choices : choices d.p d.q d.f d.g left_arguments right_arguments ≡ all_choices
        same_choices = ap (λ x. choices x.p x.q x.f x.g left_arguments right_arguments) o.is

        pub split_fits : (to : ℕ) → to ≡ new_place * line_bytes → ChoicesFit sizes line memory d to
        split_fits to e = record {
          bindings = g.first.bindings;
          pre = g.pre;
          post = g.post;
          left = left_arguments;
          right = right_arguments;
          facts = split_facts line own;
          room = omega (arith, e, ap length same_choices, choices_number, g.holds.length_is, g.holds.top_is);
        }

        pub split_goes_on : (memory' : List ℕ) (to : ℕ) → to ≡ new_place * line_bytes → PushesChoices sizes line memory d to memory' → GoesOn nodes sizes memory' w (after_turn w new_place)
        split_goes_on memory' to e u =
            turned nodes sizes memory w g.finished g.first g.others g.holds g.comes c.turns_below g.laid memory' new_place children well_formed_children
            (omega (arith, length-map all_choices (child g.first.bindings g.pre g.post), choices_number)) (omega arith)
            (u.pushes g.first.bindings g.pre g.post left_arguments right_arguments (split_facts line own)
            ∙ ap₂ (λ i cs. placed i (lines_bytes (map (child g.first.bindings g.pre g.post) cs)) memory) e same_choices)
            (line_treated ∙ ap some (sym (children_lines g.first.bindings g.pre g.post all_choices)))
