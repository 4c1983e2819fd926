-- Worked examples of command files.
use Rattle.std.proofs.Common.{◌≡◌, ℕ, List, [], ◌∷◌, ◌++◌, refl}
use Rattle.std.specs.Prelude.{Some, Result, Ok, Err, codes, replicate}
use Rattle.std.specs.Str.{is_utf8, chars}
use lib.Utf8.{encode}
use Rattle.std.specs.Str.Lossy.{utf8_valid_len}
use Rattle.sop_net.specs.Network.{empty_network, new_node}
use Rattle.sop_net.specs.declared.node_type.NodeType.TheVariants as type
use Rattle.hscript_text.specs.declared.refusal.ScriptKind.{ScriptKind}
use Rattle.hscript_text.specs.declared.refusal.ScriptKind.TheVariants.{BadBytes, Quote, NoVar, LongWord, BadCommand, BadArgs, BadName, NameTaken, NoType, Cycle}
use Rattle.hscript_text.specs.declared.script.Script.{Script}
use Rattle.hscript_text.specs.declared.style.Style.TheVariants.{Bare, Double}
use Rattle.hscript_text.specs.Pieces.{no_variables, word_within}
use Rattle.hscript_text.specs.Reading.{reading_of}
use Rattle.hscript_text.specs.Commands.{carried_out}
use Rattle.hscript_text.specs.Script.{script_of}

abbrev echoed : List ℕ → Result Script (ℕ × ScriptKind)
echoed text = Ok (record { net = empty_network; echoed = text })

empty_script : script_of [] ≡ echoed []
unfolding is_utf8 chars encode
empty_script = refl

-- rows of two nodes and a wire in each direction, of a name twice, and of single refusals

cycle : script_of (codes "opadd null a\nopadd null b\nopwire a 0 b\nopwire b 0 a\n") ≡ Err (4, Cycle)
unfolding is_utf8 chars encode
cycle = refl

name_twice : script_of (codes "opadd null a\nopadd null a\n") ≡ Err (2, NameTaken)
unfolding is_utf8 chars encode
name_twice = refl

no_command : script_of (codes "opfoo\n") ≡ Err (1, BadCommand)
unfolding is_utf8 chars encode
no_command = refl

open_quote : script_of (codes "opadd null 'a\n") ≡ Err (1, Quote)
unfolding is_utf8 chars encode
open_quote = refl

no_type : script_of (codes "opadd volume v\n") ≡ Err (1, NoType)
unfolding is_utf8 chars encode
no_type = refl

no_variable : script_of (codes "echo $x\n") ≡ Err (1, NoVar)
unfolding is_utf8 chars encode
no_variable = refl

-- a variable names a type and is echoed
made_box : script_of (codes "set n = box\nopadd $n b\necho made ${n}\n")
    ≡ Ok (record { net = record { nodes = new_node 0 type.Box (codes "b") ∷ []; added = 1 }; echoed = codes "made box\n" })
unfolding is_utf8 chars encode
made_box = refl

-- a comment is told by the raw first byte behind blanks

comment : script_of (codes " \t# 'x $y\r\n\necho a # b\n") ≡ echoed (codes "a # b\n")
unfolding is_utf8 chars encode
comment = refl

quoted_mark : script_of (codes "\"#x\"\n") ≡ Err (1, BadCommand)
unfolding is_utf8 chars encode
quoted_mark = refl

mark_of_variable : script_of (codes "set c = '#'\n$c x\n") ≡ Err (2, BadCommand)
unfolding is_utf8 chars encode
mark_of_variable = refl

byte_order_mark : script_of (239 ∷ 187 ∷ 191 ∷ codes "echo a\n") ≡ Err (1, BadCommand)
unfolding is_utf8 chars encode
byte_order_mark = refl

-- bytes that aren't UTF-8 go before every command
bad_bytes : script_of (codes "opfoo\n'" ++ 195 ∷ 40 ∷ codes "\n") ≡ Err (2, BadBytes)
unfolding is_utf8 chars encode utf8_valid_len
bad_bytes = refl

-- quotes

lines_in_quotes : script_of (codes "echo 'a\n\r$b' \"c\nd\"\nx\n") ≡ Err (4, BadCommand)
unfolding is_utf8 chars encode
lines_in_quotes = refl

line_of_first_word : script_of (codes "\n echo \"a\nb\" $x\n") ≡ Err (2, NoVar)
unfolding is_utf8 chars encode
line_of_first_word = refl

return_in_quotes : script_of (codes "echo 'a\r' b\r\n") ≡ echoed (codes "a\r b\n")
unfolding is_utf8 chars encode
return_in_quotes = refl

quote_behind_word : script_of (codes "echo a'b'\n") ≡ Err (1, Quote)
unfolding is_utf8 chars encode
quote_behind_word = refl

word_behind_quote : script_of (codes "echo 'a'b\n") ≡ Err (1, Quote)
unfolding is_utf8 chars encode
word_behind_quote = refl

escapes : script_of (codes "echo \"\\\"\\\\\\$x\\n\\t\" a\\n\n") ≡ echoed (codes "\"\\$x\n\t a\\n\n")
unfolding is_utf8 chars encode
escapes = refl

wrong_escape : script_of (codes "echo \"\\q\"\n") ≡ Err (1, Quote)
unfolding is_utf8 chars encode
wrong_escape = refl

-- the opening quote stands before the variable
open_before_variable : script_of (codes "echo \"$x\n") ≡ Err (1, Quote)
unfolding is_utf8 chars encode
open_before_variable = refl

variable_before_quote : script_of (codes "echo $x'\n") ≡ Err (1, NoVar)
unfolding is_utf8 chars encode
variable_before_quote = refl

escaped_end : script_of (codes "echo \"\\\"\n") ≡ Err (1, Quote)
unfolding is_utf8 chars encode
escaped_end = refl

-- variables

replaced_once : script_of (codes "set b = c\nset a = '$b \"'\necho $a \"${a}d\" '$a'\n") ≡ echoed (codes "$b \" $b \"d $a\n")
unfolding is_utf8 chars encode
replaced_once = refl

-- a variable's text isn't split, and an empty word is a word
one_word : script_of (codes "set e = \"\"\nset t = 'a b'\necho $e$e $t $e\nopadd $t\n") ≡ Err (4, BadArgs)
unfolding is_utf8 chars encode
one_word = refl

empty_words : script_of (codes "set e = ''\necho $e $e\necho\n") ≡ echoed (codes " \n\n")
unfolding is_utf8 chars encode
empty_words = refl

-- a name has at most 64 bytes; the rest is text, and no brace
longest_name : script_of (codes "set " ++ replicate 64 97 ++ codes " = x\necho $" ++ replicate 66 97 ++ codes "\n") ≡ echoed (codes "xaa\n")
unfolding is_utf8 chars encode
longest_name = refl

name_past_brace : script_of (codes "set " ++ replicate 64 97 ++ codes " = x\necho ${" ++ replicate 65 97 ++ codes "}\n") ≡ Err (2, NoVar)
unfolding is_utf8 chars encode
name_past_brace = refl

mark_alone : script_of (codes "echo a$\n") ≡ Err (1, NoVar)
unfolding is_utf8 chars encode
mark_alone = refl

open_brace : script_of (codes "set a = b\necho ${a\n") ≡ Err (2, NoVar)
unfolding is_utf8 chars encode
open_brace = refl

-- `set` has four words, and its sign may be quoted

quoted_sign : script_of (codes "set a \"=\" b\necho $a\n") ≡ echoed (codes "b\n")
unfolding is_utf8 chars encode
quoted_sign = refl

no_text : script_of (codes "set a =\n") ≡ Err (1, BadArgs)
unfolding is_utf8 chars encode
no_text = refl

name_of_variable : script_of (codes "set a = '9'\nset $a = b\n") ≡ Err (2, BadName)
unfolding is_utf8 chars encode
name_of_variable = refl

-- the number of words goes before the words
words_first : script_of (codes "opadd 9\n") ≡ Err (1, BadArgs)
unfolding is_utf8 chars encode
words_first = refl

no_value : script_of (codes "opparm n p v p\n") ≡ Err (1, BadArgs)
unfolding is_utf8 chars encode
no_value = refl

-- a word in a room of two bytes

fits : word_within Bare no_variables 2 0 (codes "ab") ≡ Ok (codes "ab")
fits = refl

too_long : word_within Bare no_variables 2 0 (codes "abc$") ≡ Err LongWord
too_long = refl

refused_before : word_within Double no_variables 2 0 (codes "ab\\q") ≡ Err Quote
refused_before = refl

-- the reader carries out `set`, and gives the commands up to the first that can't be read

read_one_by_one : reading_of (codes "set a = 'x y'\n\nopadd null n\necho $a z\nopadd $b\n")
    ≡ record {
      commands = record { line = 3; words = codes "opadd" ∷ codes "null" ∷ codes "n" ∷ [] } ∷ record { line = 4; words = codes "echo" ∷ codes "x y" ∷ codes "z" ∷ [] } ∷ [];
      refusal = Some (5, NoVar);
    }
unfolding is_utf8 chars encode
read_one_by_one = refl

-- a network takes its own commands alone

no_echo : carried_out empty_network (codes "echo" ∷ codes "a" ∷ []) ≡ Err BadCommand
no_echo = refl
