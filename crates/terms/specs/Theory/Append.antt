-- Lists of terms one behind the other.
use Rattle.std.specs.Prelude.{ℕ, ◌+◌, ◌≡◌, refl}
use Rattle.std.proofs.Common.{ap, arith}
use Rattle.terms.specs.Term.{Term, Terms, app, nil, cons, sizes, count}

-- The terms of the first list, and behind them those of the second.
unfoldable pub append : Terms → Terms → Terms
append nil ts = ts
append (cons s ss) ts = cons s (append ss ts)

pub append_injective : (front ss ts : Terms) → append front ss ≡ append front ts → ss ≡ ts
unfolding append
append_injective nil ss ts e = e
append_injective (cons t front) ss ts e = append_injective front ss ts (cc)

pub arguments_differ : (f : ℕ) (front ss ts : Terms) → ¬ (ss ≡ ts) → ¬ (app f (append front ss) ≡ app f (append front ts))
arguments_differ f front ss ts n e = n (append_injective front ss ts (cc))

pub nil_cons : {t : Term} {ts : Terms} → ¬ (nil ≡ cons t ts)
nil_cons e = let z : ◌≡◌ {A = ℕ} 0 1 = cc in omega arith

-- The first of the second list may as well end the first list.
pub append_first : (front : Terms) (s : Term) (ss : Terms) → append front (cons s ss) ≡ append (append front (cons s nil)) ss
unfolding append
append_first nil s ss = refl
append_first (cons t front) s ss = ap (cons t) (append_first front s ss)

pub sizes_append : (ss ts : Terms) → sizes (append ss ts) ≡ sizes ss + sizes ts
unfolding append sizes
sizes_append nil ts = omega arith
sizes_append (cons s ss) ts = omega (arith, sizes_append ss ts)

pub count_append : (ss ts : Terms) → count (append ss ts) ≡ count ss + count ts
unfolding append count
count_append nil ts = omega arith
count_append (cons s ss) ts = omega (arith, count_append ss ts)
