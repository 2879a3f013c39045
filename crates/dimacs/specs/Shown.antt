-- What is printed of what is wrong with a text.
use Rattle.std.specs.Prelude.{ℕ, List, ◌++◌, codes, decimal}
use Rattle.dimacs.specs.declared.fault.Kind.{Kind}
use Rattle.dimacs.specs.declared.fault.Kind.TheVariants.{NoHeader, BadHeader, TooManyVariables, Garbage, OutOfRange, TooManyClauses, TooFewClauses, MissingZero, TooManyEntries}
use Rattle.dimacs.specs.declared.fault.Fault.{Fault}
use Rattle.dimacs.specs.declared.fault.ReadError.{ReadError}
use Rattle.dimacs.specs.declared.fault.ReadError.TheVariants.{NoMemory, Bad}

abbrev pub kind_text : Kind → List ℕ
kind_text NoHeader = codes "a header `p cnf VARIABLES CLAUSES` is missing"
kind_text BadHeader = codes "the header is not `p cnf VARIABLES CLAUSES`"
kind_text TooManyVariables = codes "more than 32768 variables"
kind_text Garbage = codes "neither a number nor a comment"
kind_text OutOfRange = codes "a literal of a variable that the header does not have"
kind_text TooManyClauses = codes "more clauses than the header says"
kind_text TooFewClauses = codes "fewer clauses than the header says"
kind_text MissingZero = codes "the last clause is not ended by 0"
kind_text TooManyEntries = codes "the clauses have more than 65535 literals and ends"

-- the line, and what is wrong in it
abbrev pub fault_text : Fault → List ℕ
fault_text f = codes "line " ++ decimal f.line ++ codes ": " ++ kind_text f.kind

abbrev pub error_text : ReadError → List ℕ
error_text NoMemory = codes "no memory"
error_text (Bad f) = fault_text f
