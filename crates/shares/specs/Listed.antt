-- Entries as lists, and which new ones are taken.
use Rattle.std.specs.Prelude.{ℕ, Bool, not, ◌&&◌, List, take, nat_lt}
use Rattle.terms.specs.Numbers.{listed, within}
use Rattle.shares.specs.declared.entries.Entries.{Entries}

abbrev pub holders_of : Entries → List ℕ
holders_of e = take e.count e.holders

abbrev pub sizes_of : Entries → List ℕ
sizes_of e = take e.count e.sizes

-- how many they are
abbrev pub count : Entries → ℕ
count e = e.count

-- numbers in range, a holder that does not stand yet, and room
abbrev pub accepts : (most holder size : ℕ) → Entries → Bool
accepts most holder size e = within most holder && (within 99999 size && (not (listed holder (holders_of e)) && nat_lt (count e) 64))
