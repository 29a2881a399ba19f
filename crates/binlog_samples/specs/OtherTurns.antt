-- What lists don't ask for: looks that are missing or too many, looks at other files, and lists that stand in no bytes.
use Rattle.std.specs.Prelude.{[], ◌∷◌, ◌++◌, codes}
use Rattle.binlogfeed.specs.Lists.{HasNoList}
use Rattle.binlogfeed.specs.Turns.{Turns}
use Rattle.binlog_samples.specs.Following.{a_path, b_path, a_names, b_names}

-- two lists are looked at twice, and the files of the command line once before any list
abbrev pub LooksMissing : Type 0
LooksMissing =
    (Turns [] ((b_path ∷ []) ∷ (a_path ∷ []) ∷ []) 0 (b_path ∷ []) (b_names ∷ []) → ⊥) × (Turns [] ((a_path ∷ []) ∷ []) 0 (a_path ∷ []) [] → ⊥)
    × (Turns (a_path ∷ []) [] 0 (a_path ∷ []) [] → ⊥) × (Turns (a_path ∷ []) [] 0 [] [] → ⊥)

-- without files there is no look, and one list isn't looked at twice
abbrev pub LooksTooMany : Type 0
LooksTooMany = (Turns [] [] 0 [] ([] ∷ []) → ⊥) × (Turns [] ((a_path ∷ []) ∷ []) 0 (a_path ∷ []) (a_names ∷ a_names ∷ []) → ⊥)

-- not at the files of another list, nor behind it at those of the one before
abbrev pub OtherFiles : Type 0
OtherFiles =
    (Turns [] ((a_path ∷ []) ∷ []) 0 (a_path ∷ []) (b_names ∷ []) → ⊥) × (Turns (a_path ∷ []) [] 0 (a_path ∷ []) (b_names ∷ []) → ⊥)
    × (Turns [] ([] ∷ (a_path ∷ []) ∷ []) 0 (a_path ∷ []) (b_names ∷ a_names ∷ []) → ⊥) × (Turns [] ((a_path ∷ []) ∷ []) 0 (b_path ∷ []) (a_names ∷ []) → ⊥)
    × (Turns [] ((b_path ∷ []) ∷ (a_path ∷ []) ∷ []) 0 (a_path ∷ []) (a_names ∷ a_names ∷ []) → ⊥)

-- an empty list behind one with a path asks for a look, and is no blank; one before is a blank
abbrev pub OtherBlanks : Type 0
OtherBlanks =
    (Turns [] ([] ∷ (a_path ∷ []) ∷ []) 1 (a_path ∷ []) (a_names ∷ []) → ⊥) × (Turns [] ([] ∷ []) 0 [] [] → ⊥) × (Turns [] ([] ∷ []) 0 [] ([] ∷ []) → ⊥)
    × (Turns (a_path ∷ []) ([] ∷ []) 1 (a_path ∷ []) (a_names ∷ []) → ⊥)

-- bytes with a list in them, whatever stands behind it
abbrev pub ListsStandThere : Type 0
ListsStandThere =
    (HasNoList (codes "d/a" ++ 10 ∷ 10 ∷ []) → ⊥) × (HasNoList (codes "d/a" ++ 10 ∷ 10 ∷ codes "b") → ⊥) × (HasNoList (10 ∷ []) → ⊥) × (HasNoList (10 ∷ codes "b") → ⊥)
