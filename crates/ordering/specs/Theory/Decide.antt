-- The ordering, and each of its clauses, is decided by a function that computes.
use Rattle.std.specs.Prelude.{ℕ, ◌≡◌, refl}
use Rattle.std.proofs.Math.Decide.{ℕ_discrete, dec_lt}
use Rattle.terms.specs.Term.{Term, Terms, var, app, nil, cons, identical?}
use Rattle.terms.specs.Theory.Induction.{Each, each_nil, each_cons, term_ind}
use Rattle.path_order.specs.Order.{◌≻◌, SomeReaches, here_equal, here_greater, there, ExceedsAll, none, more, Lexicographic, at_first, at_later}
use Rattle.ordering.specs.Clause.{Clause, by_L1, by_L2, by_L3, Applies}
use Rattle.ordering.specs.Theory.Clause.{none_applies, L1_asks, L2_asks, L3_asks, var_not_L2, var_not_L3}
use Rattle.path_order.proofs.Theory.Subterm.{var_exceeds_nothing}
use Rattle.path_order.proofs.Theory.Laws.{≻_irrefl}

abbrev Decided : Term → Term → Type 0
Decided s t = Dec (s ≻ t)

abbrev DecidedFrom : Term → Type 0
DecidedFrom s = (t : Term) → Decided s t

-- L1: does some argument equal or exceed the term?
pub some_nil : {t : Term} → ¬ SomeReaches nil t
some_nil p = elim p [ ]

pub some_not : {s t : Term} {ss : Terms} → ¬ (s ≡ t) → ¬ (s ≻ t) → ¬ SomeReaches ss t → ¬ SomeReaches (cons s ss) t
some_not n m k here_equal = n refl
some_not n m k (here_greater g) = m g
some_not n m k (there p) = k p

some_reaches? : {ss : Terms} → Each DecidedFrom ss → (t : Term) → Dec (SomeReaches ss t)
some_reaches? each_nil t = no some_nil
some_reaches? (each_cons {t = s} p ps) t =
    elim (identical? s t) [
      | yes e ↦ yes (rw e here_equal)
      | no n ↦ elim (p t) [
        | yes g ↦ yes (here_greater g)
        | no m ↦ elim (some_reaches? ps t) [ yes q ↦ yes (there q) | no k ↦ no (some_not n m k) ]
      ]
    ]

-- L2: does the term exceed every argument?
pub all_head : {s t : Term} {ts : Terms} → ExceedsAll s (cons t ts) → s ≻ t
all_head (more g a) = g

pub all_tail : {s t : Term} {ts : Terms} → ExceedsAll s (cons t ts) → ExceedsAll s ts
all_tail (more g a) = a

exceeds_all? : {s : Term} {ts : Terms} → Each (Decided s) ts → Dec (ExceedsAll s ts)
exceeds_all? each_nil = yes none
exceeds_all? (each_cons p ps) =
    elim p [
      | yes g ↦ elim (exceeds_all? ps) [ yes a ↦ yes (more g a) | no k ↦ no (λ a. k (all_tail a)) ]
      | no m ↦ no (λ a. m (all_head a))
    ]

-- L3: the first arguments that differ.
pub lexicographic_nil_left : {w : Term} {ts : Terms} → ¬ Lexicographic w nil ts
lexicographic_nil_left l = elim l [ ]

pub lexicographic_nil_right : {w : Term} (ss : Terms) → ¬ Lexicographic w ss nil
lexicographic_nil_right nil l = elim l [ ]
lexicographic_nil_right (cons s ss) l = elim l [ ]

pub lexicographic_tail : {w s t : Term} {ss ts : Terms} → s ≡ t → Lexicographic w (cons s ss) (cons t ts) → Lexicographic w ss ts
lexicographic_tail e (at_first g a) = absurd (≻_irrefl (rw e at g))
lexicographic_tail e (at_later l) = l

pub lexicographic_head : {w s t : Term} {ss ts : Terms} → ¬ (s ≡ t) → Lexicographic w (cons s ss) (cons t ts) → (s ≻ t) × ExceedsAll w ts
lexicographic_head n (at_first g a) = (g, a)
lexicographic_head n (at_later l) = absurd (n refl)

lexicographic? : {w : Term} {ss ts : Terms} → Each DecidedFrom ss → Each (Decided w) ts → Dec (Lexicographic w ss ts)
lexicographic? each_nil qs = no lexicographic_nil_left
lexicographic? (each_cons p ps) each_nil = no (lexicographic_nil_right _)
lexicographic? (each_cons {t = s} p ps) (each_cons {t = t} q qs) =
    elim (identical? s t) [
      | yes e ↦ elim (lexicographic? ps qs) [ yes l ↦ yes (rw e (at_later l)) | no k ↦ no (λ l. k (lexicographic_tail e l)) ]
      | no n ↦ elim (p t) [
        | yes g ↦ elim (exceeds_all? qs) [ yes a ↦ yes (at_first g a) | no k ↦ no (λ l. k (lexicographic_head n l).1) ]
        | no m ↦ no (λ l. m (lexicographic_head n l).0)
      ]
    ]

-- Does a clause apply? Each is decided by itself.
var_applies? : {f : ℕ} {ss : Terms} (c : Clause) → Each DecidedFrom ss → (v : ℕ) → Dec (Applies c (app f ss) (var v))
var_applies? by_L1 ps v = elim (some_reaches? ps (var v)) [ yes p ↦ yes (L1_asks.1 p) | no n ↦ no (λ x. n (L1_asks.0 x)) ]
var_applies? by_L2 ps v = no var_not_L2
var_applies? by_L3 ps v = no var_not_L3

app_applies? : {f g : ℕ} {ss ts : Terms} (c : Clause) → Each DecidedFrom ss → Each (Decided (app f ss)) ts → Dec (Applies c (app f ss) (app g ts))
app_applies? {g = g} {ts = ts} by_L1 ps qs = elim (some_reaches? ps (app g ts)) [ yes p ↦ yes (L1_asks.1 p) | no n ↦ no (λ x. n (L1_asks.0 x)) ]
app_applies? {f} {g} by_L2 ps qs =
    elim (dec_lt g f) [
      | yes i ↦ elim (exceeds_all? qs) [ yes a ↦ yes (L2_asks.1 (i, a)) | no k ↦ no (λ x. k (L2_asks.0 x).1) ]
      | no i ↦ no (λ x. i (L2_asks.0 x).0)
    ]
app_applies? {f} {g} by_L3 ps qs =
    elim (ℕ_discrete f g) [
      | yes e ↦ elim (lexicographic? ps qs) [ yes l ↦ yes (L3_asks.1 (e, l)) | no k ↦ no (λ x. k (L3_asks.0 x).1) ]
      | no d ↦ no (λ x. d (L3_asks.0 x).0)
    ]

-- s > t is decided by asking the three clauses one after the other.
any_applies? : {s t : Term} → ((c : Clause) → Dec (Applies c s t)) → Decided s t
any_applies? d =
    elim (d by_L1) [
      | yes x ↦ yes x.shown
      | no n ↦ elim (d by_L2) [
        | yes x ↦ yes x.shown
        | no m ↦ elim (d by_L3) [ yes x ↦ yes x.shown | no k ↦ no (none_applies n m k) ]
      ]
    ]

unfoldable pub exceeds? : (s t : Term) → Dec (s ≻ t)
unfolding term_ind any_applies? var_applies? app_applies? some_reaches? exceeds_all? lexicographic? identical? ℕ_discrete dec_lt
exceeds? =
    term_ind DecidedFrom (λ v t. no var_exceeds_nothing) (λ f ss ps.
    term_ind (Decided (app f ss)) (λ v. any_applies? (λ c. var_applies? c ps v)) (λ g ts qs. any_applies? (λ c. app_applies? c ps qs)))

-- What holds of every term holds of each of a list.
unfoldable each : {P : Term → Type 0} → ((t : Term) → P t) → (ts : Terms) → Each P ts
each p nil = each_nil
each p (cons t ts) = each_cons (p t) (each p ts)

-- Whether a clause applies to two terms.
unfoldable pub applies? : (c : Clause) (s t : Term) → Dec (Applies c s t)
unfolding exceeds? each var_applies? app_applies? some_reaches? exceeds_all? lexicographic? identical? ℕ_discrete dec_lt
applies? c (var v) t = no (λ x. var_exceeds_nothing x.shown)
applies? c (app f ss) (var v) = var_applies? c (each exceeds? ss) v
applies? c (app f ss) (app g ts) = app_applies? c (each exceeds? ss) (each (exceeds? (app f ss)) ts)
