-- How a call of the program ended, its line on err, and the texts that name the program.
use Rattle.std.specs.Prelude.{ℕ, List, ◌++◌, codes}
use Rattle.raw_shell.specs.declared.arguments.FixedText.{FixedText}
use Rattle.raw_shell.specs.Answers as shell
use Rattle.raw_shell.specs.Arguments as words
use Rattle.raw_inputs.specs.declared.flaw.InputFlaw.{InputFlaw}
use Rattle.raw_inputs.specs.Flaws.{Failure, flaw_line}

-- how a call of the program ended: as a command ends that was done, or why it was not done
abbrev pub Answer : Type 0
Answer = shell.Answer InputFlaw

-- the line on err of a command that was not done
abbrev pub err_line : Failure → List ℕ
err_line failure = shell.err_line flaw_line failure

-- what `--help` writes
unfoldable pub help_text : List ℕ
help_text =
    codes "rawgrid: runs a grid of tiles and switches, and tells how it came to rest\n"
    ++ codes "\n"
    ++ codes "rawgrid run          runs the set on standard input and writes its report\n"
    ++ codes "rawgrid picture      runs it, and draws how it came to rest, as SVG\n"
    ++ codes "rawgrid history      runs it, and writes its text and the steps that it took\n"
    ++ codes "rawgrid cycles       steps it by the clock, and counts cycles and who waits\n"
    ++ codes "rawgrid path         steps it by the clock, and says what bounds its cycles\n"
    ++ codes "rawgrid trace        steps it by the clock, and writes what each cycle does\n"
    ++ codes "rawgrid explore      writes a page that shows these cycles in a browser\n"
    ++ codes "rawgrid depths       runs it at each depth, and says if deeper queues help\n"
    ++ codes "rawgrid names        writes what processors and wires its numbers stand for\n"
    ++ codes "rawgrid lines        writes which line gives each instruction, and its labels\n"
    ++ codes "rawgrid check        reads a history and says whether each step was lawful\n"
    ++ codes "rawgrid debug        reads a set and a script, and shows it right after any step\n"
    ++ codes "rawgrid prove        reads a set and a claim, and proves it for all its inputs\n"
    ++ codes "rawgrid steady       says whether its time is the same for all its inputs\n"
    ++ codes "rawgrid asm          reads the text of a set and writes its image: bytes\n"
    ++ codes "rawgrid list         reads an image and writes the text of its set\n"
    ++ codes "rawgrid plan         reads sends of words and writes the text of a set for them\n"
    ++ codes "rawgrid flow         reads definitions and writes the text of a set for them\n"
    ++ codes "rawgrid work N       runs N words (1 to 100,000) through 4 by 4 tiles and writes\n"
    ++ codes "                     one line: work N OUTCOME words K sum S steps M\n"
    ++ codes "rawgrid --help       writes this text\n"
    ++ codes "rawgrid --version    writes the version\n"
    ++ codes "\n"
    ++ codes "--workers N          run, picture, history, work: N threads, 1-64; else up to 4\n"
    ++ codes "--image              the set of run, picture, history, cycles, path, trace,\n"
    ++ codes "                     explore, depths, steady or names is an image\n"
    ++ codes "--plan, --flow       it is that of a plan, or of a flow\n"
    ++ codes "--from C             trace, explore: the first cycle; else 0\n"
    ++ codes "--cycles K           trace, explore: at most K cycles, 1 to 50,000; else 1,000\n"
    ++ codes "--whole              trace, explore: and the turns of the whole run\n"
    ++ codes "--lost               cycles: and to what the waits of each processor lead\n"
    ++ codes "--live               debug: answers each line before it reads more;\n"
    ++ codes "                     prove: for every number of rows, of a set that loops\n"
    ++ codes "--schedule           flow: a set of fewer cycles, where a search finds one\n"
    ++ codes "--endless            with it, of rows: a set for rawlive that never ends, proved\n"
    ++ codes "\n"
    ++ codes "All but work, --help and --version read standard input. A set is text: grid C R,\n"
    ++ codes "limit N, then lines depth, source, sink, feed, data, misses, show, and programs\n"
    ++ codes "from tile X Y or switch X Y up to end; # begins a comment. An example:\n"
    ++ codes "    rawgrid run < examples/sum.set\n"
    ++ codes "\n"
    ++ codes "status  0 done                            6 the limit of instructions\n"
    ++ codes "        2 refused words or input          7 standard input failed\n"
    ++ codes "        3 deadlock: a cycle of waits      8 standard output failed\n"
    ++ codes "        4 stuck: waits for one that       9 no memory\n"
    ++ codes "          has stopped                    10 input over 33,554,432 bytes\n"
    ++ codes "        5 trapped                        11 check: a step is not lawful\n"
    ++ codes "                                         12 prove, steady: not proved\n"
    ++ codes "                                         13 prove: words refute the claim\n"
    ++ codes "On 2 and 7 to 10 standard error has one line, of a faulty text or image\n"
    ++ codes "    refused line L: KIND\n"
    ++ codes "    refused image at OFFSET: KIND\n"
    ++ codes "\n"
    ++ codes "docs/HANDBOOK.md has lessons, docs/rawgrid.1 all kinds of faults.\n"

-- what `--version` writes
unfoldable pub version_text : List ℕ
version_text = codes "rawgrid 0.2.0\n"

-- what a fixed text is
abbrev pub fixed_text_of : FixedText → List ℕ
fixed_text_of text = words.fixed_text_by help_text version_text text
