-- Names behind one another, as they are appended.
use Rattle.std.specs.Prelude.{ℕ, List, [], ◌∷◌, ◌++◌, Bool, if◌then◌else◌}

-- a comma, where something stands before
abbrev pub comma_if : Bool → List ℕ
comma_if later = if later then 44 ∷ [] else []

-- the names, each behind a comma where something stands before it
abbrev pub joined_from : Bool → List (List ℕ) → List ℕ
joined_from later [] = []
joined_from later (name ∷ names) = comma_if later ++ (name ++ joined_from Bool.true names)

-- a name, where it is a member
abbrev pub member_if : Bool → Bool → List ℕ → List ℕ
member_if is_member later name = if is_member then comma_if later ++ name else []
