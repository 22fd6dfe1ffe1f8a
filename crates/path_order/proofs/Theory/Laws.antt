-- The ordering is transitive, irreflexive and asymmetric. Nothing is assumed of arities or variables.
use Rattle.std.specs.Prelude.{ℕ, ◌<◌, ◌≡◌, refl}
use Rattle.std.proofs.Common.{sym, subst, arith}
use Rattle.terms.specs.Term.{Term, Terms, var, app}
use Rattle.terms.specs.Theory.Induction.{Each, each_nil, each_cons, term_ind}
use Rattle.path_order.specs.Order.{◌≻◌, L1, L2, L3, SomeReaches, here_equal, here_greater, there, ExceedsAll, none, more, Lexicographic, at_first, at_later}
use Rattle.path_order.proofs.Theory.Subterm.{var_exceeds_nothing, lexicographic_exceeds_all}

-- Transitivity, by induction on the greatest, then the middle, then the least term.
abbrev Chain : Term → Term → Term → Type 0
Chain s t u = s ≻ t → t ≻ u → s ≻ u

abbrev ChainsFrom : Term → Type 0
ChainsFrom s = (t u : Term) → Chain s t u

abbrev ChainsOver : Term → Term → Type 0
ChainsOver s t = (u : Term) → Chain s t u

some_trans : {ss : Terms} {t u : Term} → Each ChainsFrom ss → SomeReaches ss t → t ≻ u → SomeReaches ss u
some_trans (each_cons p ps) here_equal h = here_greater h
some_trans (each_cons p ps) (here_greater g) h = here_greater (p _ _ g h)
some_trans (each_cons p ps) (there q) h = there (some_trans ps q h)
some_trans {t = t} {u = u} each_nil x5 h = elim x5 [ ]

all_some : {s u : Term} {ts : Terms} → Each (ChainsOver s) ts → ExceedsAll s ts → SomeReaches ts u → s ≻ u
all_some (each_cons p ps) (more g a) here_equal = g
all_some (each_cons p ps) (more g a) (here_greater h) = p _ g h
all_some (each_cons p ps) (more g a) (there q) = all_some ps a q
all_some {s = s} {u = u} each_nil _ x6 = elim x6 [ ]

all_trans : {s t : Term} {us : Terms} → Each (Chain s t) us → s ≻ t → ExceedsAll t us → ExceedsAll s us
all_trans each_nil h none = none
all_trans (each_cons p ps) h (more g a) = more (p h g) (all_trans ps h a)

lexicographic_trans : {w v : Term} {ss ts us : Terms} → Each ChainsFrom ss → Lexicographic w ss ts → Lexicographic v ts us → ExceedsAll w us
    → Lexicographic w ss us
lexicographic_trans (each_cons p ps) (at_first g a) (at_first h b) (more x c) = at_first (p _ _ g h) c
lexicographic_trans (each_cons p ps) (at_first g a) (at_later m) (more x c) = at_first g c
lexicographic_trans (each_cons p ps) (at_later l) (at_first h b) (more x c) = at_first h c
lexicographic_trans (each_cons p ps) (at_later l) (at_later m) (more x c) = at_later (lexicographic_trans ps l m c)
lexicographic_trans {w = w} {v = v} {ts = ts} {us = us} each_nil x7 _ _ = elim x7 [ ]

precedence_trans : {f g h : ℕ} → g < f → h < g → h < f
precedence_trans i j = omega arith

chain_reached : {f g : ℕ} {ss ts : Terms} {u : Term} → Each ChainsFrom ss → Each (ChainsOver (app f ss)) ts
    → app f ss ≻ app g ts → SomeReaches ts u → app f ss ≻ u
chain_reached p q (L1 x) y = L1 (some_trans p x (L1 y))
chain_reached p q (L2 i a) y = all_some q a y
chain_reached p q (L3 l) y = all_some q (lexicographic_exceeds_all l) y

chain_var : {f g v : ℕ} {ss ts : Terms} → Each ChainsFrom ss → Each (ChainsOver (app f ss)) ts → Chain (app f ss) (app g ts) (var v)
chain_var p q x (L1 y) = chain_reached p q x y

chain_app : {f g h : ℕ} {ss ts us : Terms} → Each ChainsFrom ss → Each (ChainsOver (app f ss)) ts → Each (Chain (app f ss) (app g ts)) us
    → Chain (app f ss) (app g ts) (app h us)
chain_app p q r x (L1 y) = chain_reached p q x y
chain_app p q r (L1 x) (L2 j b) = L1 (some_trans p x (L2 j b))
chain_app p q r (L2 i a) (L2 j b) = L2 (precedence_trans i j) (all_trans r (L2 i a) b)
chain_app p q r (L3 l) (L2 j b) = L2 j (all_trans r (L3 l) b)
chain_app p q r (L1 x) (L3 m) = L1 (some_trans p x (L3 m))
chain_app p q r (L2 i a) (L3 m) = L2 i (all_trans r (L2 i a) (lexicographic_exceeds_all m))
chain_app p q r (L3 l) (L3 m) = L3 (lexicographic_trans p l m (all_trans r (L3 l) (lexicographic_exceeds_all m)))

pub ≻_trans : {s t u : Term} → s ≻ t → t ≻ u → s ≻ u
≻_trans {s} {t} {u} =
    term_ind ChainsFrom (λ v t u g. absurd (var_exceeds_nothing g)) (λ f ss p.
    term_ind (ChainsOver (app f ss)) (λ v u g h. absurd (var_exceeds_nothing h)) (λ g ts q.
    term_ind (Chain (app f ss) (app g ts)) (λ v. chain_var p q) (λ h us r. chain_app p q r))) s t u

-- Irreflexivity.
abbrev Irreflexive : Term → Type 0
Irreflexive s = ¬ (s ≻ s)

-- No term is an argument of itself, or below one.
some_irrefl : {w : Term} {ss : Terms} → Each Irreflexive ss → ((x : Term) → SomeReaches ss x → w ≻ x) → ¬ SomeReaches ss w
some_irrefl (each_cons p ps) k here_equal = p (k _ here_equal)
some_irrefl (each_cons p ps) k (here_greater g) = p (≻_trans g (k _ here_equal))
some_irrefl (each_cons p ps) k (there q) = some_irrefl ps (λ x m. k x (there m)) q
some_irrefl {w = w} each_nil k x5 = elim x5 [ ]

-- Stated of two equal rows of terms, and of two equal terms: no case equates a term with itself.
lexicographic_unequal : {w : Term} {ss ts : Terms} → ss ≡ ts → Each Irreflexive ss → ¬ Lexicographic w ss ts
lexicographic_unequal e (each_cons {t = s} p ps) (at_first {t₁ = t} g a) = let same : s ≡ t = cc in p (subst (λ x. s ≻ x) (sym same) g)
lexicographic_unequal e (each_cons {ts = ss} p ps) (at_later {ts = ts} l) = let same : ss ≡ ts = cc in lexicographic_unequal same ps l
lexicographic_unequal {w = w} e each_nil x3 = elim x3 [ ]

lexicographic_irrefl : {w : Term} {ss : Terms} → Each Irreflexive ss → ¬ Lexicographic w ss ss
lexicographic_irrefl p l = lexicographic_unequal refl p l

app_unequal : {f : ℕ} {ss : Terms} {t : Term} → app f ss ≡ t → Each Irreflexive ss → ¬ (app f ss ≻ t)
app_unequal {f} {ss} e p (L1 x) = some_irrefl p (λ y m. L1 m) (subst (λ u. SomeReaches ss u) (sym e) x)
app_unequal {f} e p (L2 {g = g} i a) = let same : f ≡ g = cc in omega arith
app_unequal {f} {ss} e p (L3 {ts = ts} l) = let same : ss ≡ ts = cc in lexicographic_unequal same p l

app_irrefl : {f : ℕ} {ss : Terms} → Each Irreflexive ss → Irreflexive (app f ss)
app_irrefl p g = app_unequal refl p g

pub ≻_irrefl : {s : Term} → ¬ (s ≻ s)
≻_irrefl {s} = term_ind Irreflexive (λ v. var_exceeds_nothing) (λ f ss p. app_irrefl p) s

-- Asymmetry.
pub ≻_asym : {s t : Term} → s ≻ t → ¬ (t ≻ s)
≻_asym g h = ≻_irrefl (≻_trans g h)
