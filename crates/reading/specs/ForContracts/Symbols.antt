-- What the contracts of the code that reads the symbol frame cite.
use Rattle.std.specs.Prelude.{ℕ, ◌+◌, ◌*◌, ◌≤◌, ◌≡◌, true, false, List, [], length, Result, Ok, Err}
use Rattle.format.specs.Limits.{max_symbols}
use Rattle.format.specs.Refusal.{refuse, give}
use Rattle.format.specs.declared.refusal.Refusal.{Refusal}
use Rattle.format.specs.declared.refusal.Refusal.TheVariants.{SymbolFrame}
use Rattle.sheet.specs.Frame.{State, within, symbols_right, symbols_body}
use Rattle.scanning.specs.declared.known.Known.{Known}
use Rattle.scanning.specs.ForContracts.Scan.{known_arities}
use Rattle.scanning.specs.ForContracts.Known.{Roomy}

-- `n` bytes from `from` on, few enough for symbols.
pub record AritiesReady (text : List ℕ) (from n : ℕ) : Type 0 where
  pub some_symbol : 1 ≤ n
  pub few_symbols : n ≤ max_symbols
  pub inside : from + 2 * n ≤ length text

abbrev pub symbols_only : List ℕ → State
symbols_only arities = within (record { arities = arities; equations = []; tasks = [] })

-- A symbol frame's body: the arities are known, and nothing else yet.
abbrev pub SymbolsRead : List ℕ → Result Known Refusal → Type 0
SymbolsRead bs (Ok k) = (symbols_body bs ≡ give (symbols_only (known_arities k))) × (k.equations ≡ 0) × (k.tasks ≡ 0) × Roomy k
SymbolsRead bs (Err x) = symbols_body bs ≡ refuse x

-- The arities are right for `n` symbols, and known; or they are not right.
abbrev pub ArityBytes : List ℕ → (n : ℕ) → Result Known Refusal → Type 0
ArityBytes arities n (Ok k) = (symbols_right n arities ≡ true) × (known_arities k ≡ arities) × (k.equations ≡ 0) × (k.tasks ≡ 0) × Roomy k
ArityBytes arities n (Err x) = (symbols_right n arities ≡ false) × (x ≡ SymbolFrame)
