-- What is written of two looks that stand one behind the other.
use Rattle.std.specs.Prelude.{List, [], ◌∷◌, ◌++◌, Option, Some, None, Ok, Err}
use Rattle.binlog_select.specs.declared.filter.Filter.{Filter}
use Rattle.binlog_json.specs.declared.style.Style.{Style}
use Rattle.binlog_feed.specs.Feeds.{feed}
use Rattle.binlog_feed.specs.FeedView.{passes_by}
use Rattle.binlog_units.specs.Parsing.{LogFile}
use Rattle.binlog_feed.specs.declared.start.Start.TheVariants.{Beginning}
use Rattle.binlogfeed.specs.Follow.{Ending, TextGoesOn, WritesNext}
use Rattle.binlogfeed.specs.Looks.{EachDiffers, look_text}
use Rattle.binlogfeed.specs.declared.fault.RunFault.TheVariants as run
use Rattle.binlogfeed.specs.declared.follow_fault.FollowFault.TheVariants.{Ended}
use Rattle.binlog_samples.specs.Tokens.{first_file, second_file}
use Rattle.binlog_samples.specs.Following.{cut_look, earlier_looks, look_at, one_file}
use Rattle.binlog_samples.specs.FollowEnds.{bad_row}

-- ---- names

-- the first and the third file have one name
abbrev pub one_twice : List LogFile
one_twice = first_file ∷ second_file [] ∷ first_file ∷ []

-- be it the newest look or an older one
abbrev pub LooksDiffer : Type 0
LooksDiffer =
    EachDiffers [] × EachDiffers earlier_looks × (EachDiffers (look_at one_twice ∷ earlier_looks) → ⊥) × (EachDiffers (look_at one_file ∷ look_at one_twice ∷ []) → ⊥)

-- ---- the text of the later look

-- Where another look is made behind it, all of its text stands there behind what was there and the front, and more may come. No fault ends it.
abbrev pub NextIsWritten : Type 0
NextIsWritten =
    WritesNext (Some (97 ∷ [])) (Some (97 ∷ 98 ∷ 10 ∷ [])) (98 ∷ []) (10 ∷ []) None None
    × WritesNext (Some (97 ∷ [])) (Some (97 ∷ 98 ∷ 10 ∷ 99 ∷ [])) (98 ∷ []) (10 ∷ []) None None

-- neither without its end, its front or what was there before, nor where a fault ends its files
abbrev pub NextIsNotWritten : Type 0
NextIsNotWritten =
    (WritesNext (Some (97 ∷ [])) (Some (97 ∷ 98 ∷ [])) (98 ∷ []) (10 ∷ []) None None → ⊥) × (WritesNext (Some (97 ∷ [])) (Some (97 ∷ 10 ∷ [])) (98 ∷ []) (10 ∷ []) None None → ⊥)
    × (WritesNext (Some (97 ∷ [])) (Some (98 ∷ 10 ∷ [])) (98 ∷ []) (10 ∷ []) None None → ⊥)
    × (WritesNext (Some (97 ∷ [])) (Some (97 ∷ 98 ∷ 10 ∷ [])) (98 ∷ []) (10 ∷ []) (Some bad_row) None → ⊥)

-- where the run ended with it, it is as that says, and so are its files
abbrev pub LastIsWritten : Type 0
LastIsWritten =
    WritesNext (Some (97 ∷ [])) (Some (97 ∷ 98 ∷ 10 ∷ [])) [] (98 ∷ 10 ∷ []) None (Some (Ok tt))
    × WritesNext (Some (97 ∷ [])) (Some (97 ∷ 98 ∷ [])) [] (98 ∷ 10 ∷ []) (Some bad_row) (Some (Err (Ended (run.Log bad_row))))
    × WritesNext (Some (97 ∷ [])) (Some (97 ∷ 98 ∷ [])) [] (98 ∷ 10 ∷ []) None (Some (Err (Ended run.Write)))
    × (WritesNext (Some (97 ∷ [])) (Some (97 ∷ 98 ∷ [])) [] (98 ∷ 10 ∷ []) None (Some (Ok tt)) → ⊥)
    × (WritesNext (Some (97 ∷ [])) (Some (97 ∷ 98 ∷ 10 ∷ [])) [] (98 ∷ 10 ∷ []) (Some bad_row) (Some (Ok tt)) → ⊥)
    × (WritesNext (Some (97 ∷ [])) (Some (97 ∷ 98 ∷ [])) [] (98 ∷ 10 ∷ []) None (Some (Err (Ended (run.Log bad_row)))) → ⊥)
    × (WritesNext (Some (97 ∷ [])) (Some (97 ∷ 99 ∷ [])) [] (98 ∷ 10 ∷ []) None (Some (Err (Ended run.Write))) → ⊥)

-- ---- the text of both

-- an empty line for an empty list, one for a look at no whole event, and then all of the file
abbrev pub BothAreWritten : Type 0
BothAreWritten = (style : Style) (chosen : Filter)
    → TextGoesOn style chosen Beginning 1 (Some []) (Some ((10 ∷ 10 ∷ []) ++ look_text style (feed one_file (passes_by chosen)))) (cut_look 100) (look_at one_file) [] (Some (Ok tt))

-- Each of the two looks has an empty line, and so has an empty list. The file that was read is there as far as it was.
abbrev pub BothAreNotWritten : Type 0
BothAreNotWritten = (style : Style) (chosen : Filter) (ended : Option Ending)
    → (TextGoesOn style chosen Beginning 0 (Some []) (Some (10 ∷ [])) (cut_look 100) (look_at one_file) [] None → ⊥)
    × (TextGoesOn style chosen Beginning 1 (Some []) (Some (10 ∷ 10 ∷ [])) (cut_look 100) (look_at one_file) [] (Some (Ok tt)) → ⊥)
    × (TextGoesOn style chosen Beginning 0 (Some []) (Some []) (look_at one_file) (cut_look 370) [] ended → ⊥)
