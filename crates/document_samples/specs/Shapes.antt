-- What documents are, apart from their text, and how deep they may be.
use Rattle.std.specs.Prelude.{◌≡◌, ℕ, zero, suc, ◌+◌, ◌/◌, ◌%◌, pos, negsuc, List, [], ◌∷◌, length, codes, Bool, Some, None}
use Rattle.binlog_documents.specs.Document.{Document, null, boolean, integer, double, text, opaque, array, object, no_elements, element, no_members, member}
use Rattle.binlog_documents.specs.Containers.{document_at}
use Rattle.document_samples.specs.Bytes.{hex}

abbrev pub Shapes : Type 0
Shapes =
    (document_at (hex "00 01 00 0c 00 0b 00 01 00 05 01 00 61") ≡ Some (object (member (codes "a") (integer (pos 1)) no_members)))
    × (document_at (hex "02 06 00 20 00 05 01 00 0c 16 00 02 18 00 04 00 00 07 1c 00 05 fb ff 01 78 00 00 04 00 70 11 01 00")
    ≡ Some (array (element (integer (pos 1)) (element (text (codes "x")) (element (array no_elements) (element null (element (integer (pos 70000)) (element (integer (negsuc 4)) no_elements))))))))
    × (document_at (hex "0b 00 00 00 00 00 00 f8 3f") ≡ Some (double 0x3ff8000000000000)) × (document_at (hex "04 02") ≡ Some (boolean Bool.false))
    × (document_at (hex "0f fc 02 61 ff") ≡ Some (opaque 252 (0x61 ∷ 0xff ∷ [])))

-- an array of one element, whose type and bytes are given
abbrev pub in_array : List ℕ → List ℕ
in_array [] = []
in_array (kind ∷ bytes) = let size = length bytes + 7 in 2 ∷ 1 ∷ 0 ∷ size % 256 ∷ size / 256 ∷ kind ∷ 7 ∷ 0 ∷ bytes

-- so many arrays in one another around an empty text
abbrev pub nested : ℕ → List ℕ
nested zero = 0x0c ∷ 0 ∷ []
nested (suc n) = in_array (nested n)

abbrev pub nested_document : ℕ → Document
nested_document zero = text []
nested_document (suc n) = array (element (nested_document n) no_elements)

-- a hundred, and not one more
abbrev pub Depths : Type 0
Depths = (document_at (nested 3) ≡ Some (nested_document 3)) × (document_at (nested 100) ≡ Some (nested_document 100)) × (document_at (nested 101) ≡ None)
