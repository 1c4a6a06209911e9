-- The names from outside `proofs` that the proofs cite, passed on from one place. A definition that a proof unfolds comes from its own file. Declares nothing.
pub use Rattle.clap.proofs.ValueTestLemmas.{accepts-Accepts, Accepts-accepts}
pub use Rattle.clap.proofs.WalkLemmas.{first_value-rows, raw_values-rows}
pub use Rattle.clap.specs.Faults.{fault_of, is_simple_and_free, check_fault, defaults_fault, level_fault, settle_fault, step_fault, turn_fault, word_fault}
pub use Rattle.clap.specs.Kinds.{FailsBy, HasKind, IsAmong, Kinds, or_else}
pub use Rattle.clap.specs.Lexer.{long_of, short_of}
pub use Rattle.clap.specs.Matches.{found_of}
pub use Rattle.clap.specs.Simple.{App, HasMatchesOf, is_simple, subcommand_of, subcommand_rows_of, Shape, built, label_of, new_shape, rows_at}
pub use Rattle.clap.specs.Simple.{app_of, new_app, with_subcommand}
pub use Rattle.clap.specs.ValueTests.{is_unsigned_in}
pub use Rattle.clap.specs.Walk.{Row, Held, Text, answers_to, finished, nothing_held, settled, walk_from, walked, Rule, Waiting, Walk, idle, option, positional}
pub use Rattle.clap.specs.Walk.{value, arg_by_index, is_multiple, next_position, positional_held, to_positional, word_met}
pub use Rattle.clap.specs.Words.{rule_of}
pub use Rattle.clap.specs.declared.builder.value_parser.ValueParser.TheVariants.{Unsigned}
pub use Rattle.clap.specs.declared.error.Error.{Error}
pub use Rattle.clap.specs.declared.error.kind.ErrorKind.{ErrorKind}
pub use Rattle.clap.specs.declared.error.kind.ErrorKind.TheVariants.{ValueValidation}
pub use Rattle.clap.specs.declared.parser.matches.ArgMatches.{ArgMatches}
pub use Rattle.command_line.specs.NumberLists.{all_numbers, ends_of, firsts, joined, named_number, numbers_of_part, numbers_of_word, numbers_of_words}
pub use Rattle.command_line.specs.Internal.Matches.{IsAnswerTo, rows_in, with_command, with_one}
pub use Rattle.command_line.specs.Internal.Named.{AreMarked, is_among, with_all, with_named}
pub use Rattle.command_line.specs.Commands.{cats}
pub use Rattle.command_line.specs.Requests.{IsNoRequestOf, if_taken, is_no_memory, is_shown, request_of, requested_by, requested_in, requested_of}
pub use Rattle.command_line.specs.Requests.{begins_with_hyphen, paths_for, EachRequests, unless_signed, usual}
pub use Rattle.requests.specs.Requests.{PlainRequest, texts_of}
pub use Rattle.requests.specs.Tasks.{name_of}
pub use Rattle.requests.specs.declared.task.Task.{Task}
pub use Rattle.requests.specs.declared.task.TaskRow.{TaskRow}
pub use Rattle.requests.specs.declared.task.TheConstants.{TASKS}
pub use Rattle.command_line.specs.Numbers.{begins_with_sign, limit_of, number_up_to}
pub use Rattle.command_line.specs.declared.request.Misuse.{Misuse}
pub use Rattle.command_line.specs.declared.request.Misuse.TheVariants.{SignedNumber, UnboundedTotal, NoFiles}
pub use Rattle.command_line.specs.declared.request.NoRequest.{NoRequest}
pub use Rattle.command_line.specs.declared.request.NoRequest.TheVariants.{Help, WrongUsage, Misused, NoMemory}
pub use Rattle.std.proofs.Common.{◌≡◌, ◌∙◌, ℕ, Bool, true, false, List, [], ◌∷◌, Option, Some, None, Result, ap, sym, subst, refl, inl, inr, ◌++◌, ◌+◌, ◌-◌}
pub use Rattle.std.proofs.Common.{◌<◌, ◌≤◌, drop, replicate, get_or, length, arith, le-leb, suc, zero, ap₂, map, Ok, Err, ◌^◌, rules, take, tests, codes}
pub use Rattle.std.proofs.Math.Bool.{or-true}
pub use Rattle.std.proofs.lemmas.Bool.{lt-leb}
pub use Rattle.std.proofs.lemmas.Bool.Decides.{nat_tests}
pub use Rattle.std.proofs.lemmas.Iterator.Consumers.{map_from_collect}
pub use Rattle.std.proofs.lemmas.Iterator.Splits.{YieldsList-from_str_split}
pub use Rattle.std.proofs.lemmas.List.{append-nil, append_assoc, get_or-replicate, length-replicate, at_drop_more, get_or-map}
pub use Rattle.std.proofs.lemmas.List.Folds.{list_any-append}
pub use Rattle.std.proofs.lemmas.List.Sums.{fold_more, fold-append, fold_push}
pub use Rattle.std.specs.Borrow.{Bor}
pub use Rattle.std.specs.List.{list_any, range_with_len, slice_split}
pub use Rattle.std.specs.Option.{option_map_or}
pub use Rattle.std.specs.Prelude.{filter, not, ◌&&◌, option_map, ◌==◌, if◌then◌else◌, option_and_then, ◌||◌, All, find, fold, unwrap_or}
pub use Rattle.std.specs.Result.{result_ok}
pub use Rattle.std.specs.Str.{bytes_eq}
pub use Rattle.std.specs.Str.Parse.{ParsesUnsigned}
