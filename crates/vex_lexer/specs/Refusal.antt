-- Why a text has no tokens.
use Rattle.std.specs.Prelude.{ℕ, List}
use Rattle.vex_lexer.specs.declared.token.Token.{Token}
use Rattle.vex_lexer.specs.declared.fault.LexFault.{LexFault}
use Rattle.vex_lexer.specs.declared.fault.LexFault.TheVariants.{NoToken, Memory}
use Rattle.vex_lexer.specs.Spelling.{Spells, LacksToken}

-- With a line, the text spells no tokens, and the line is that of the place where no piece begins.
abbrev pub IsRefusal : List ℕ → LexFault → Type 0
IsRefusal text (NoToken line) = LacksToken text line × ((tokens : List Token) → Spells text tokens → ⊥)
IsRefusal text Memory = Unit {0}
