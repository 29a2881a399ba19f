-- What is unfolded to find options and files in the words of a command line.
use Rattle.std.specs.Prelude.{⊤}
use Rattle.clap.proofs.OnLiterals.{clap_on_literals}

unfoldable pub on_words : ⊤
unfolding clap_on_literals
on_words = tt
