-- A scalar without where its bytes lie in memory.
use Rattle.std.specs.Prelude.{ℕ, pos, Option, option_map}
use Rattle.binlog_documents.specs.Document.{Document, null, boolean, integer, double, text, opaque}
use Rattle.binlog_documents.specs.declared.scalar.Scalar.{Scalar}
use Rattle.binlog_documents.specs.declared.scalar.Scalar.TheVariants.{Null, Boolean, Signed, Unsigned, Double, Text, Opaque}

abbrev pub scalar_view : Scalar → Document
scalar_view Null = null
scalar_view (Boolean b) = boolean b
scalar_view (Signed z) = integer z
scalar_view (Unsigned n) = integer (pos n)
scalar_view (Double d) = double d.bits
scalar_view (Text s) = text s.now
scalar_view (Opaque kind bytes) = opaque kind bytes.now

abbrev pub reading_view : Option (Scalar × ℕ) → Option (Document × ℕ)
reading_view r = option_map (λ x. (scalar_view x.0, x.1)) r
