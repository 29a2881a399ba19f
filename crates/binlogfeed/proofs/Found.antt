-- What a subcommand that was found comes to.
use Rattle.std.proofs.Common.{◌≡◌, refl, Bool, true, false, true≢false, List, Option, Some, None, option_map, Result, Ok, Err, codes, sym, ap, subst, ◌∙◌}
use Rattle.std.proofs.lemmas.Slice.Eq.{bytes_eq-Decides}
use Rattle.std.specs.Prelude.{Box, IsErrAnd}
use Rattle.std.specs.Str.{bytes_eq}
use Rattle.std.specs.Box.{box_value}
use Rattle.std.specs.declared.alloc.Global.{Global}
use Rattle.clap.specs.Words.{Row, Text, subcommand_name_of, subcommand_rows, subcommand_rows_of}
use Rattle.clap.specs.declared.parser.matches.ArgMatches.{ArgMatches}
use Rattle.clap.specs.declared.parser.matches.ArgMatches.TheViews.{out-ArgMatches, out-SubCommand}
use Rattle.clap.specs.declared.parser.matches.SubCommand.{SubCommand}
use Rattle.binlogfeed.specs.Words.{AnswersFound, NamesNone, style_given}
use Rattle.binlogfeed.specs.KeyWords.{IsKeyFault, value_given}
use Rattle.binlogfeed.specs.declared.words.Order.{Order}
use Rattle.binlogfeed.specs.declared.words_fault.WordsFault.{WordsFault}
use Rattle.binlogfeed.specs.declared.words_fault.WordsFault.TheVariants.{Key, OutOfMemory}
use Rattle.binlogfeed.proofs.Parsing.{named_is}

-- ---- a name that is compared

pub named_same : (name given : Text) (same : Bool) → same ≡ bytes_eq name given → same ≡ true → name ≡ given
named_same name given same e h = (bytes_eq-Decides name given).0 (sym e ∙ h)

pub named_else : (name given : Text) (same : Bool) → same ≡ bytes_eq name given → same ≡ false → name ≡ given → ⊥
named_else name given same e h k = true≢false (sym ((bytes_eq-Decides name given).1 k) ∙ sym e ∙ h)

-- ---- no name of the program's

abbrev name_in : Text → Option (Text × List Row) → Text
name_in name (Some found) = found.0
name_in name None = name

same_name : (name given : Text) (rows other : List Row) (found : Option (Text × List Row)) → Some (name, rows) ≡ found → found ≡ Some (given, other) → name ≡ given
same_name name given rows other found e h = ap (name_in name) e ∙ ap (name_in name) h

names_other : (found : Option (Text × List Row)) (name : Text) (rows : List Row) → Some (name, rows) ≡ found
    → (name ≡ codes "transactions" → ⊥) → (name ≡ codes "read" → ⊥) → (name ≡ codes "history" → ⊥) → NamesNone found
names_other found name rows e transactions read history = λ other.
    (λ h. transactions (same_name name _ rows other found e h), λ h. read (same_name name _ rows other found e h), λ h. history (same_name name _ rows other found e h))

pub other_answers : (matches : ArgMatches) (name : Text) (rows : List Row)
    → Some name ≡ subcommand_name_of matches → Some rows ≡ option_map (λ p. p.1) (subcommand_rows_of matches)
    → (name ≡ codes "transactions" → ⊥) → (name ≡ codes "read" → ⊥) → (name ≡ codes "history" → ⊥) → NamesNone (subcommand_rows_of matches)
other_answers matches name rows h k = names_other (subcommand_rows_of matches) name rows (named_is (out-ArgMatches matches).subcommand name rows h k)

unnamed : (sub : Option (Box SubCommand Global)) → None ≡ option_map (λ b. (out-SubCommand (box_value b)).name.now) sub → NamesNone (subcommand_rows sub)
unnamed None h = λ rows. (λ e. cc, λ e. cc, λ e. cc)
unnamed (Some b) h = absurd (cc)

pub none_answers : (matches : ArgMatches) → None ≡ subcommand_name_of matches → NamesNone (subcommand_rows_of matches)
none_answers matches h = unnamed (out-ArgMatches matches).subcommand h

-- ---- faults of what was given to it

pub key_refused : (rows : List Row) (fault : WordsFault) → IsKeyFault (style_given rows) (value_given (codes "key") rows) fault → AnswersFound (Some (codes "history", rows)) (Err fault)
key_refused rows OutOfMemory h = tt
key_refused rows Key h = (rows, refl, h)
key_refused rows other h = absurd h

-- ---- what is answered where a fault is found

pub failed : (found : Option (Text × List Row)) (fault : WordsFault) (result : Result Order WordsFault) → AnswersFound found (Err fault) → IsErrAnd result (λ given. given ≡ fault) → AnswersFound found result
failed found fault (Ok order) h k = absurd k
failed found fault (Err given) h k = subst (λ (f : WordsFault). AnswersFound found (Err f)) (sym k) h
