-- A document: what a value of a JSON column says, whatever its bytes are.
use Rattle.std.specs.Prelude.{ℕ, ℤ, List, Bool}

mutual
  pub data Document : Type 0 where
    null : Document
    boolean : Bool → Document
    integer : ℤ → Document
    -- by its bits
    double : ℕ → Document
    text : List ℕ → Document
    -- a value of another of MySQL's types: the type, and the bytes
    opaque : ℕ → List ℕ → Document
    array : Elements → Document
    object : Members → Document

  pub data Elements : Type 0 where
    no_elements : Elements
    element : Document → Elements → Elements

  -- in the order in which they are stored
  pub data Members : Type 0 where
    no_members : Members
    member : List ℕ → Document → Members → Members
