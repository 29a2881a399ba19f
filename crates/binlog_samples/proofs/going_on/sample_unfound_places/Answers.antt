use Rattle.std.proofs.Common.{◌≡◌, ◌≤◌, ◌<◌, ◌∙◌, ℕ, [], ◌∷◌, Option, Some, None, refl, sym, ap, inl, arith}
use Rattle.std.specs.Prelude.{◌≢◌}
use Rattle.std.proofs.lemmas.Option.{same_Some}
use Rattle.binlog_units.specs.Machine.{FileFault}
use Rattle.binlog_units.specs.Places.{begin_file}
use Rattle.binlog_units.specs.declared.fault.LogFault.{LogFault}
use Rattle.binlog_units.specs.declared.what.What.{What}
use Rattle.binlog_units.specs.declared.what.What.TheVariants.{BadMagic, NoFormat}
use Rattle.binlog_samples.specs.Tokens.{first_name, second_name, third_name, first_file, second_file}
use Rattle.binlog_samples.specs.GoingOn.{behind, cut_to, held_by, magic_of, names_in, one_followed, two_followed, second_end}
use Rattle.binlog_samples.proofs.GrownFiles.{first_named, second_named, not_alone, not_short, numbers_differ}
use Rattle.binlog_samples.proofs.OnBytes.{on_bytes}
use Rattle.binlog_samples.proofs.going_on.sample_unfound_places.Goals as goal

first_is_not_second : first_name ≢ second_name
first_is_not_second = numbers_differ first_name second_name (λ e. omega (arith, e))

third_is_not_first : third_name ≢ first_name
third_is_not_first = numbers_differ third_name first_name (λ e. omega (arith, e))

-- ---- shorter files

pub returns-clause-shorter_files : goal.returns-clause-shorter_files
unfolding on_bytes
returns-clause-shorter_files c = (
  (0, record { name = first_name; named = refl; found = first_named first_name [] }, inl (omega arith)),
  (0, record { name = first_name; named = refl; found = first_named first_name [] }, inl (omega arith)),
  (1, record { name = second_name; named = refl; found = second_named first_name second_name [] first_is_not_second }, inl (omega arith)),
  (0, record { name = second_name; named = refl; found = first_named second_name [] }, inl (omega arith)),
  (0, record { name = second_name; named = refl; found = first_named second_name [] }, inl (omega arith)),
  (0, record { name = first_name; named = refl; found = first_named first_name [] }, inl (omega arith)),
)

pub returns-clause-files_not_shorter : goal.returns-clause-files_not_shorter
unfolding on_bytes
returns-clause-files_not_shorter c = (
  not_short (names_in one_followed) (held_by one_followed) (first_name ∷ []) (held_by (cut_to 371 first_file ∷ [])) (begin_file 0) first_name 0 refl (first_named first_name []) (omega arith) (λ ends. let none = ends.0 in cc),
  not_short (names_in one_followed) (held_by one_followed) (first_name ∷ []) (held_by (cut_to 371 first_file ∷ [])) (behind 371) first_name 0 refl (first_named first_name []) (omega arith) (λ ends. let none = ends.0 in cc),
  not_short (names_in two_followed) (held_by two_followed) (first_name ∷ second_name ∷ []) (held_by (cut_to 370 first_file ∷ second_file [] ∷ [])) (begin_file 1) second_name 1 refl
      (second_named first_name second_name [] first_is_not_second) (omega arith) (λ ends. let none = ends.0 in cc),
  (λ short. not_alone first_name short.1.name short.0 (λ e. first_is_not_second (e ∙ sym (same_Some second_name short.1.name short.1.named))) short.1.found),
  not_short (names_in one_followed) (held_by one_followed) (second_name ∷ first_name ∷ first_name ∷ []) (held_by (second_file [] ∷ first_file ∷ cut_to 370 first_file ∷ [])) (begin_file 0) first_name 1 refl
      (second_named second_name first_name (first_name ∷ []) (λ e. first_is_not_second (sym e))) (omega arith) (λ ends. let none = ends.0 in cc),
)

-- ---- faults in place of the first event

pub returns-clause-faults_of_grown : goal.returns-clause-faults_of_grown
unfolding on_bytes
returns-clause-faults_of_grown c = (
  (record { name = first_name; named = refl; found = first_named first_name [] }, omega arith, (omega arith, (refl, refl))),
  (record { name = first_name; named = refl; found = second_named third_name first_name [] third_is_not_first }, omega arith, (omega arith, (refl, refl))),
  (record { name = second_name; named = refl; found = first_named second_name [] }, omega arith, (omega arith, (refl, refl))),
)

abbrev place_in : Option FileFault → ℕ
place_in None = 0
place_in (Some fault) = fault.place

abbrev what_in : Option FileFault → What
what_in None = BadMagic
what_in (Some fault) = fault.what

pub returns-clause-other_faults : goal.returns-clause-other_faults
unfolding on_bytes
returns-clause-other_faults c = (
  (λ faulty. let place : 0 ≡ 4 = ap place_in faulty.2.1.1 in omega (arith, place)),
  (λ faulty. let what : BadMagic ≡ NoFormat = ap what_in faulty.2.1.1 in cc),
  (λ faulty. third_is_not_first (same_Some third_name first_name (faulty.0.found.1 ∙ sym faulty.0.named))),
  (λ faulty. first_is_not_second (same_Some first_name second_name (faulty.0.found.1 ∙ sym faulty.0.named))),
)

pub returns-clause-no_faults_of_grown : goal.returns-clause-no_faults_of_grown
unfolding on_bytes
returns-clause-no_faults_of_grown c = (
  (λ faulty. let long : 371 ≤ 370 = faulty.1 in omega (arith, long)),
  (λ faulty. let none = faulty.2.1.0 in cc),
  (λ faulty. let some : 0 < 0 = faulty.2.0 in omega (arith, some)),
)

-- ---- why no place is found

pub returns-clause-places_unfound : goal.returns-clause-places_unfound
unfolding on_bytes
returns-clause-places_unfound c = (
  (0, record { name = first_name; named = refl; found = first_named first_name [] }, inl (omega arith)),
  (record { name = first_name; named = refl; found = first_named first_name [] }, omega arith, (omega arith, (refl, refl))),
  refl,
  tt,
)

abbrev position_in : Option LogFault → ℕ
position_in None = 0
position_in (Some fault) = fault.position

pub returns-clause-places_found : goal.returns-clause-places_found
unfolding on_bytes
returns-clause-places_found c = (
  not_short (names_in one_followed) (held_by one_followed) (first_name ∷ []) (held_by (cut_to 371 first_file ∷ [])) (begin_file 0) first_name 0 refl (first_named first_name []) (omega arith) (λ ends. let none = ends.0 in cc),
  (λ faulty. let place : 0 ≡ 4 = ap place_in faulty.2.1.1 in omega (arith, place)),
  (λ told. let none : None ≡ Some (magic_of 0) = told in cc),
  (λ told. let position : 390 ≡ 371 = ap position_in told in omega (arith, position)),
  (λ faulty. let none = faulty.2.1.0 in cc),
  (λ told. let none : None ≡ Some second_end = told in cc),
)
