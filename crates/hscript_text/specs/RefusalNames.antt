-- How refusals are printed.
use Rattle.std.specs.Prelude.{ℕ, List, codes}
use Rattle.hscript_text.specs.declared.refusal.ScriptKind.{ScriptKind}
use Rattle.hscript_text.specs.declared.refusal.ScriptKind.TheVariants.{BadBytes, Quote, NoVar, LongWord, BadCommand, BadArgs, BadName, NameTaken, NoType, Limit, NoNode, NoParm, BadValue, BadInput, Cycle}

abbrev pub name_of_refusal : ScriptKind → List ℕ
name_of_refusal BadBytes = codes "BadBytes"
name_of_refusal Quote = codes "Quote"
name_of_refusal NoVar = codes "NoVar"
name_of_refusal LongWord = codes "LongWord"
name_of_refusal BadCommand = codes "BadCommand"
name_of_refusal BadArgs = codes "BadArgs"
name_of_refusal BadName = codes "BadName"
name_of_refusal NameTaken = codes "NameTaken"
name_of_refusal NoType = codes "NoType"
name_of_refusal Limit = codes "Limit"
name_of_refusal NoNode = codes "NoNode"
name_of_refusal NoParm = codes "NoParm"
name_of_refusal BadValue = codes "BadValue"
name_of_refusal BadInput = codes "BadInput"
name_of_refusal Cycle = codes "Cycle"
