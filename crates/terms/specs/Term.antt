-- Terms, ground terms and instances (document 01, 'The sheet' and 'The walk that solves s > t').
use Rattle.std.specs.Prelude.{ℕ, suc, ◌+◌, ◌<◌, ◌≡◌, List, length, get_or}
use Rattle.std.proofs.Math.Decide.{ℕ_discrete}

-- "a symbol byte followed by its arguments, or a variable". Symbols and variables are numbered from 0; `Terms` is a list of terms.
mutual
  pub data Term : Type 0 where
    var : ℕ → Term
    app : ℕ → Terms → Term
    deriving Discrete as Term-discrete

  pub data Terms : Type 0 where
    nil : Terms
    cons : Term → Terms → Terms
    deriving Discrete as Terms-discrete

-- Are two terms identical?
unfoldable pub identical? : (s t : Term) → Dec (s ≡ t)
unfolding ℕ_discrete
identical? s t = Term-discrete ℕ_discrete s t

-- "A node is one byte": the number of nodes.
unfoldable mutual
  pub size : Term → ℕ
  size (var v) = 1
  size (app f ts) = suc (sizes ts)

  pub sizes : Terms → ℕ
  sizes nil = 0
  sizes (cons t ts) = size t + sizes ts

unfoldable pub count : Terms → ℕ
count nil = 0
count (cons t ts) = suc (count ts)

-- The term that stands at place `i` of a list, counted from 0; `d` where the list is shorter.
unfoldable pub nth : Terms → ℕ → Term → Term
nth nil i d = d
nth (cons t ts) ℕ.zero d = t
nth (cons t ts) (suc i) d = nth ts i d

-- The arity of a symbol, where `arities` lists those of all symbols from 00 upward.
unfoldable pub arity : List ℕ → ℕ → ℕ
arity arities f = get_or arities f 0

-- "ground terms over the sheet's symbols": no variable, each symbol one of the sheet's, with as many arguments as its arity says.
abbrev mutual
  pub Ground : List ℕ → Term → Type 0
  Ground arities (var v) = ⊥
  Ground arities (app f ts) = (f < length arities) × (count ts ≡ arity arities f) × Grounds arities ts

  pub Grounds : List ℕ → Terms → Type 0
  Grounds arities nil = Unit {0}
  Grounds arities (cons t ts) = Ground arities t × Grounds arities ts

-- A value for each variable.
abbrev pub Values : Type 0
Values = ℕ → Term

-- "a side's instance is that side with each variable replaced by its value".
unfoldable mutual
  pub inst : Values → Term → Term
  inst ρ (var v) = ρ v
  inst ρ (app f ts) = app f (insts ρ ts)

  pub insts : Values → Terms → Terms
  insts ρ nil = nil
  insts ρ (cons t ts) = cons (inst ρ t) (insts ρ ts)
