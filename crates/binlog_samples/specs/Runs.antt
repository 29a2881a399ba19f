-- What runs write and answer: all lines of an output, or a beginning of them, and their number; why one doesn't begin; and what one adds that
-- goes on behind lines that were written before.
use Rattle.std.specs.Prelude.{◌≡◌, ℕ, List, [], ◌∷◌, ◌++◌, Option, Some, None, Ok, Err, codes}
use Rattle.binlog_feed.specs.Changes.{RowChange}
use Rattle.binlog_feed.specs.Tokens.Judgement.{NoFile, Fits, NoChange, Faulty, NoTransaction}
use Rattle.binlog_units.specs.declared.fault.LogFault.{LogFault}
use Rattle.binlog_units.specs.declared.what.What.TheVariants.{BadRows}
use Rattle.binlog_json.specs.declared.style.Style.TheVariants.{Plain}
use Rattle.binlogfeed.specs.Faults.{IsNoRefusal}
use Rattle.binlogfeed.specs.GoingOn.{CountsNew, GoesOnWith}
use Rattle.binlogfeed.specs.Lines.{change_line}
use Rattle.binlogfeed.specs.Runs.{Answers, AnswersAll, AnswersGone, AnswersIfBegun, AnswersOutput, AnswersRefusal, Output, line_count, refusal_by}
use Rattle.binlogfeed.specs.declared.fault.RunFault.TheVariants as run
use Rattle.binlogfeed.specs.declared.fault.TokenRefusal.TheVariants as refusals
use Rattle.binlog_samples.specs.Statuses.{two_names}

-- ---- numbers of lines

-- at 2^64 - 1 the number stays
abbrev pub LinesCounted : Type 0
LinesCounted =
    (line_count 0 ≡ 0) × (line_count 7 ≡ 7) × (line_count 18446744073709551614 ≡ 18446744073709551614) × (line_count 18446744073709551615 ≡ 18446744073709551615)
    × (line_count 18446744073709551616 ≡ 18446744073709551615) × (line_count 36893488147419103232 ≡ 18446744073709551615)

-- ---- outputs

-- what the output has of earlier runs
abbrev pub kept : List ℕ
kept = codes "x" ++ 10 ∷ []

abbrev pub line_a : List ℕ
line_a = codes "a" ++ 10 ∷ []

abbrev pub line_b : List ℕ
line_b = codes "b" ++ 10 ∷ []

abbrev pub two_lines : Output
two_lines = record { text = line_a ++ line_b; count = 2; end = None }

abbrev pub row_fault : LogFault
row_fault = record { file = 1; position = 306; what = BadRows }

-- a fault behind them
abbrev pub faulty_lines : Output
faulty_lines = record two_lines { end = Some row_fault }

-- what the output has behind that
abbrev pub behind_kept : List ℕ → Option (List ℕ)
behind_kept text = Some (kept ++ text)

-- all lines, and their number: neither one less nor one more
abbrev pub AllLines : Type 0
AllLines =
    AnswersOutput two_lines (Some kept) (behind_kept (line_a ++ line_b)) (Ok 2)
    × (AnswersOutput two_lines (Some kept) (behind_kept (line_a ++ line_b)) (Ok 1) → ⊥) × (AnswersOutput two_lines (Some kept) (behind_kept (line_a ++ line_b)) (Ok 3) → ⊥)

-- not without a line, with one twice, in another order, or with what was there before gone
abbrev pub OtherLines : Type 0
OtherLines =
    (AnswersOutput two_lines (Some kept) (behind_kept line_a) (Ok 2) → ⊥) × (AnswersOutput two_lines (Some kept) (behind_kept line_b) (Ok 2) → ⊥)
    × (AnswersOutput two_lines (Some kept) (behind_kept []) (Ok 2) → ⊥) × (AnswersOutput two_lines (Some kept) (behind_kept (line_a ++ line_a ++ line_b)) (Ok 2) → ⊥)
    × (AnswersOutput two_lines (Some kept) (behind_kept (line_b ++ line_a)) (Ok 2) → ⊥) × (AnswersOutput two_lines (Some kept) (Some (line_a ++ line_b)) (Ok 2) → ⊥)

-- A fault is answered where it ends the output, behind all lines: neither another one, nor one that isn't there, nor none.
abbrev pub FaultOfLines : Type 0
FaultOfLines =
    AnswersOutput faulty_lines (Some kept) (behind_kept (line_a ++ line_b)) (Err (run.Log row_fault))
    × (AnswersOutput faulty_lines (Some kept) (behind_kept (line_a ++ line_b)) (Err (run.Log (record row_fault { position = 307 }))) → ⊥)
    × (AnswersOutput faulty_lines (Some kept) (behind_kept line_a) (Err (run.Log row_fault)) → ⊥)
    × (AnswersOutput two_lines (Some kept) (behind_kept (line_a ++ line_b)) (Err (run.Log row_fault)) → ⊥)
    × (AnswersOutput faulty_lines (Some kept) (behind_kept (line_a ++ line_b)) (Ok 2) → ⊥)

-- a device or want of memory leaves a beginning, which may end within a line or be the whole
abbrev pub LinesCut : Type 0
LinesCut =
    AnswersOutput two_lines (Some kept) (behind_kept (line_a ++ codes "b")) (Err run.Write) × AnswersOutput two_lines (Some kept) (behind_kept (codes "a")) (Err (run.Read 0))
    × AnswersOutput two_lines (Some kept) (behind_kept line_a) (Err run.OutOfMemory)

abbrev pub LinesNotCut : Type 0
LinesNotCut =
    (AnswersOutput two_lines (Some kept) (behind_kept line_b) (Err run.Write) → ⊥) × (AnswersOutput two_lines (Some kept) (behind_kept line_b) (Err (run.Read 0)) → ⊥)
    × (AnswersOutput two_lines (Some kept) (behind_kept line_b) (Err run.OutOfMemory) → ⊥)

-- Of lines that are gone a failed read keeps none back, neither a part of one nor a whole one. All other answers but that of want of memory
-- are as before.
abbrev pub AllGoneLines : Type 0
AllGoneLines =
    AnswersAll Plain two_lines (Some kept) (behind_kept (line_a ++ line_b)) (Err (run.Read 0)) × (AnswersAll Plain two_lines (Some kept) (behind_kept (line_a ++ codes "b")) (Err (run.Read 0)) → ⊥)
    × (AnswersAll Plain two_lines (Some kept) (behind_kept line_a) (Err (run.Read 0)) → ⊥) × (AnswersAll Plain two_lines (Some kept) (Some kept) (Err (run.Read 0)) → ⊥)
    × AnswersAll Plain two_lines (Some kept) (behind_kept line_a) (Err run.Write) × (AnswersAll Plain two_lines (Some kept) (behind_kept line_b) (Err run.Write) → ⊥)
    × AnswersAll Plain two_lines (Some kept) (behind_kept (line_a ++ line_b)) (Ok 2) × (AnswersAll Plain two_lines (Some kept) (behind_kept line_a) (Ok 1) → ⊥)

-- of these the last is that of a change
abbrev pub line_and : RowChange → Output
line_and change = record two_lines { text = line_a ++ change_line Plain change }

-- Want of memory keeps back none, or the last change's line as a whole: nothing that is no such line, nor two lines. What isn't a beginning
-- isn't answered so.
abbrev pub GoneWithoutMemory : Type 0
GoneWithoutMemory =
    AnswersAll Plain two_lines (Some kept) (behind_kept (line_a ++ line_b)) (Err run.OutOfMemory) × ((change : RowChange) → AnswersAll Plain (line_and change) (Some kept) (behind_kept line_a) (Err run.OutOfMemory))
    × (AnswersAll Plain two_lines (Some kept) (behind_kept line_a) (Err run.OutOfMemory) → ⊥) × (AnswersAll Plain two_lines (Some kept) (Some kept) (Err run.OutOfMemory) → ⊥)
    × (AnswersAll Plain two_lines (Some kept) (behind_kept line_b) (Err run.OutOfMemory) → ⊥)

-- the second of them, with the fault behind it
abbrev pub faulty_rest : Output
faulty_rest = record faulty_lines { text = line_b; count = 1 }

-- What is left ends as the whole did.
abbrev pub EndsAlike : Type 0
EndsAlike =
    AnswersGone Plain faulty_lines faulty_rest (Some kept) (behind_kept line_a) (Err (run.Read 0))
    × (AnswersGone Plain faulty_lines (record faulty_rest { end = None }) (Some kept) (behind_kept line_a) (Err (run.Read 0)) → ⊥)
    × (AnswersGone Plain two_lines faulty_rest (Some kept) (behind_kept line_a) (Err (run.Read 0)) → ⊥)

-- neither names nor a token are refused once there is an output
abbrev pub OutputsRefuseNothing : Type 0
OutputsRefuseNothing =
    (AnswersOutput two_lines (Some kept) (Some kept) (Err (run.DuplicateFile 1)) → ⊥) × (AnswersOutput two_lines (Some kept) (Some kept) (Err (run.Token refusals.NoFile)) → ⊥)

-- ---- refusals

-- A refused run writes nothing and answers why, or that a device or want of memory ended it before.
abbrev pub RunsRefused : Type 0
RunsRefused =
    AnswersRefusal (run.Token refusals.NoFile) (Some kept) (Some kept) (Err (run.Token refusals.NoFile)) × AnswersRefusal (run.Token refusals.NoFile) (Some kept) (Some kept) (Err (run.Read 0))
    × AnswersRefusal (run.Token refusals.NoFile) (Some kept) (Some kept) (Err run.OutOfMemory)

abbrev pub RunsNotRefused : Type 0
RunsNotRefused =
    (AnswersRefusal (run.Token refusals.NoFile) (Some kept) (Some kept) (Ok 0) → ⊥)
    × (AnswersRefusal (run.Token refusals.NoFile) (Some kept) (Some kept) (Err (run.Token refusals.NoChange)) → ⊥)
    × (AnswersRefusal (run.Token refusals.NoFile) (Some kept) (Some kept) (Err run.Write) → ⊥)

-- nothing: not a line, and not even a line feed
abbrev pub RefusalsWriteNothing : Type 0
RefusalsWriteNothing =
    (AnswersRefusal (run.Token refusals.NoFile) (Some kept) (behind_kept line_a) (Err (run.Token refusals.NoFile)) → ⊥)
    × (AnswersRefusal (run.Token refusals.NoFile) (Some kept) (behind_kept (10 ∷ [])) (Err (run.Read 0)) → ⊥)
    × (AnswersRefusal (run.Token refusals.NoFile) (Some kept) (Some []) (Err run.OutOfMemory) → ⊥)

-- what each judgement of a start refuses
abbrev pub RefusalsByJudgement : Type 0
RefusalsByJudgement =
    (refusal_by Fits ≡ None) × (refusal_by NoFile ≡ Some (run.Token refusals.NoFile)) × (refusal_by NoTransaction ≡ Some (run.Token refusals.NoTransaction))
    × (refusal_by NoChange ≡ Some (run.Token refusals.NoChange)) × (refusal_by (Faulty row_fault) ≡ Some (run.Log row_fault))

-- ---- whole runs

abbrev pub one_name_twice : List (List ℕ)
one_name_twice = codes "a" ∷ codes "a" ∷ []

-- Two files with one name are answered, the second of them, and nothing is written.
abbrev pub NamesAnswered : Type 0
NamesAnswered =
    Answers one_name_twice Fits two_lines (Some kept) (Some kept) (Err (run.DuplicateFile 1)) × (Answers one_name_twice Fits two_lines (Some kept) (Some kept) (Err (run.DuplicateFile 0)) → ⊥)
    × (Answers one_name_twice Fits two_lines (Some kept) (behind_kept line_a) (Err (run.DuplicateFile 1)) → ⊥)
    × (Answers one_name_twice Fits two_lines (Some kept) (behind_kept (line_a ++ line_b)) (Ok 2) → ⊥)
    × (Answers two_names Fits two_lines (Some kept) (Some kept) (Err (run.DuplicateFile 1)) → ⊥)

-- a start that fits gives the output, and one that doesn't its refusal
abbrev pub StartsAnswered : Type 0
StartsAnswered =
    Answers two_names Fits two_lines (Some kept) (behind_kept (line_a ++ line_b)) (Ok 2) × Answers two_names NoFile two_lines (Some kept) (Some kept) (Err (run.Token refusals.NoFile))
    × (Answers two_names NoFile two_lines (Some kept) (behind_kept (line_a ++ line_b)) (Ok 2) → ⊥)
    × (Answers two_names Fits two_lines (Some kept) (Some kept) (Err (run.Token refusals.NoFile)) → ⊥)

-- a run for whose window there is no memory writes nothing, also over two files with one name
abbrev pub NotBegun : Type 0
NotBegun =
    AnswersIfBegun one_name_twice Fits two_lines (Some kept) (Some kept) (Err run.OutOfMemory)
    × (AnswersIfBegun one_name_twice Fits two_lines (Some kept) (behind_kept line_a) (Err run.OutOfMemory) → ⊥)
    × (AnswersIfBegun two_names NoFile two_lines (Some kept) (behind_kept line_a) (Err run.OutOfMemory) → ⊥)
    × (AnswersIfBegun two_names NoFile two_lines (Some kept) (Some kept) (Ok 0) → ⊥)

-- ---- runs that go on

-- the lines behind the one that was written before, each once
abbrev pub GoesOn : Type 0
GoesOn =
    GoesOnWith line_a two_lines (Some kept) (behind_kept line_b) (Ok 1) × (GoesOnWith line_a two_lines (Some kept) (behind_kept (line_a ++ line_b)) (Ok 2) → ⊥)
    × (GoesOnWith line_a two_lines (Some kept) (behind_kept line_a) (Ok 1) → ⊥) × (GoesOnWith line_a two_lines (Some kept) (Some kept) (Ok 0) → ⊥)
    × (GoesOnWith line_b two_lines (Some kept) (behind_kept line_a) (Ok 1) → ⊥) × (GoesOnWith line_a two_lines (Some kept) (Some line_b) (Ok 1) → ⊥)

abbrev pub GoesOnToFault : Type 0
GoesOnToFault =
    GoesOnWith line_a faulty_lines (Some kept) (behind_kept line_b) (Err (run.Log row_fault)) × (GoesOnWith line_a faulty_lines (Some kept) (behind_kept line_b) (Ok 1) → ⊥)
    × (GoesOnWith line_a two_lines (Some kept) (behind_kept line_b) (Err (run.Log row_fault)) → ⊥)
    × (GoesOnWith line_a faulty_lines (Some kept) (behind_kept (line_a ++ line_b)) (Err (run.Log row_fault)) → ⊥)

-- a beginning of what is new: not of the line before, either
abbrev pub GoesOnCut : Type 0
GoesOnCut =
    GoesOnWith line_a two_lines (Some kept) (behind_kept (codes "b")) (Err run.Write) × GoesOnWith line_a two_lines (Some kept) (Some kept) (Err (run.Read 0))
    × (GoesOnWith line_a two_lines (Some kept) (behind_kept (codes "a")) (Err run.Write) → ⊥) × (GoesOnWith line_a two_lines (Some kept) (behind_kept line_a) (Err (run.Read 0)) → ⊥)
    × (GoesOnWith line_a two_lines (Some kept) (behind_kept line_a) (Err run.OutOfMemory) → ⊥)

-- no token is refused, and where names are nothing is written
abbrev pub GoesOnRefused : Type 0
GoesOnRefused =
    GoesOnWith line_a two_lines (Some kept) (Some kept) (Err (run.DuplicateFile 1)) × (GoesOnWith line_a two_lines (Some kept) (behind_kept line_b) (Err (run.DuplicateFile 1)) → ⊥)
    × (GoesOnWith line_a two_lines (Some kept) (Some kept) (Err (run.Token refusals.NoTransaction)) → ⊥)
    × IsNoRefusal run.Write × (IsNoRefusal (run.DuplicateFile 1) → ⊥) × (IsNoRefusal (run.Token refusals.NoFile) → ⊥)

-- two changes are new behind one: neither one nor three
abbrev pub NewCounted : Type 0
NewCounted =
    (first second third : RowChange)
    → CountsNew (first ∷ []) (first ∷ second ∷ third ∷ []) (Ok 2) × CountsNew (first ∷ []) (first ∷ []) (Ok 0) × CountsNew (first ∷ []) (first ∷ second ∷ []) (Err run.Write)
    × (CountsNew (first ∷ []) (first ∷ second ∷ third ∷ []) (Ok 1) → ⊥) × (CountsNew (first ∷ []) (first ∷ second ∷ third ∷ []) (Ok 3) → ⊥)
    × (CountsNew (first ∷ second ∷ []) (first ∷ []) (Ok 0) → ⊥)
