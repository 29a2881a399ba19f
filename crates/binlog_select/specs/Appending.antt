-- What becomes of a list of intervals to which those that a text names are appended.
use Rattle.std.specs.Prelude.{◌≡◌, ℕ, List, [], ◌∷◌, ◌++◌, Option, Some, None, Result, Ok, Err, option_map}
use Rattle.std.specs.Global.{Vec}
use Rattle.binlog_select.specs.declared.interval.Interval.{Interval}
use Rattle.binlog_select.specs.Parts.{parts}
use Rattle.binlog_select.specs.SetText.{IsFirstBad, IsFirstBadBy, colon, interval_in, intervals_of}
use Rattle.binlog_select.specs.declared.source.Source.{Source}
use Rattle.binlog_profile.specs.declared.profile.Profile.{Profile}
use Rattle.binlog_select.specs.declared.set_fault.SetFault.{SetFault}
use Rattle.binlog_select.specs.declared.set_fault.SetFault.TheVariants.{BadSet, OutOfMemory}

-- the reading, if there is one, behind what stood there
abbrev pub appended : List Interval → Option (List Interval) → Option (List Interval)
appended old read = option_map (λ is. old ++ is) read

-- the element `at` has the reading, which is appended; or it has none
abbrev pub Appends : ℕ → Option (List Interval) → List Interval → List Interval → Result (Unit {0}) SetFault → Type 0
Appends at read old new (Ok _) = appended old read ≡ Some new
Appends at read old new (Err (BadSet k)) = (k ≡ at) × (read ≡ None)
Appends at read old new (Err OutOfMemory) = Unit {0}

-- the same of lists as they are kept
abbrev pub AppendsRead : ℕ → Option (List Interval) → Vec Interval → Vec Interval → Result (Unit {0}) SetFault → Type 0
AppendsRead at read old new result = Appends at read old.items new.items result

-- the interval of a source that a text spells, as a list
abbrev pub one_interval : Source → List ℕ → Option (List Interval)
one_interval source text = option_map (λ i. i ∷ []) (interval_in source text)

-- and those that texts parted by colons spell
abbrev pub spelled : Profile → Source → List ℕ → Option (List Interval)
spelled profile source texts = intervals_of profile source (parts colon texts)

-- a set is refused for the first of its elements that has no reading by a profile
abbrev pub RefusesFirstBadBy : {A : Type 0} → Profile → List (List ℕ) → Result A SetFault → Type 0
RefusesFirstBadBy profile texts result = (at : ℕ) → result ≡ Err (BadSet at) → IsFirstBadBy profile texts at

-- and by the strict profile
abbrev pub RefusesFirstBad : {A : Type 0} → List (List ℕ) → Result A SetFault → Type 0
RefusesFirstBad texts result = (at : ℕ) → result ≡ Err (BadSet at) → IsFirstBad texts at
