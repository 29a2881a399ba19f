-- Steps of reading a table map, each of which may end in a fault.
use Rattle.std.specs.Prelude.{◌≡◌, Result, Ok, Err}
use Rattle.binlog_table.specs.declared.fault.MapFault.{MapFault}
use Rattle.binlog_table.specs.declared.fault.MapFault.TheVariants.{BadMap, TypeOutOfProfile, NoColumnNames, OutOfMemory}

-- a step, and then another with what it gave; the first fault is the fault of both
infixl 10 ◌>>=◌
abbrev pub ◌>>=◌ : {A B : Type 0} → Result A MapFault → (A → Result B MapFault) → Result B MapFault
(Ok x) >>= f = f x
(Err e) >>= f = Err e

-- the reading has this fault; nothing is said of it where memory ran out
abbrev pub Fails : {Y : Type 0} → MapFault → Result Y MapFault → Type 0
Fails OutOfMemory read = Unit {0}
Fails BadMap read = read ≡ Err BadMap
Fails (TypeOutOfProfile t) read = read ≡ Err (TypeOutOfProfile t)
Fails NoColumnNames read = read ≡ Err NoColumnNames

-- What a function returned, seen by view, is what the reading gives, unless memory ran out.
abbrev pub Gives : {X Y : Type 0} → (X → Y) → Result X MapFault → Result Y MapFault → Type 0
Gives view (Ok x) read = read ≡ Ok (view x)
Gives view (Err e) read = Fails e read

-- The same of a function that takes no memory.
abbrev pub GivesExactly : {X Y : Type 0} → (X → Y) → Result X MapFault → Result Y MapFault → Type 0
GivesExactly view (Ok x) read = read ≡ Ok (view x)
GivesExactly view (Err e) read = read ≡ Err e
