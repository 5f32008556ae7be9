use Rattle.raw_picture.proofs.Plain.{escaped, plain_title, plain_word_of, plain_say, plain_all_waits, plain_set, plain_name, plain_mark, plain_shown, plain_labelled, plain_box, plain_port_title, plain_port_text, plain_wire, plain_words, plain_number, plain_wait}
use Rattle.raw_picture.proofs.laws.law_no_escapes.Goals as goal

pub returns-clause-escaped : goal.returns-clause-escaped
returns-clause-escaped c = escaped

pub returns-clause-title : goal.returns-clause-title
returns-clause-title c = plain_title

pub returns-clause-outcome : goal.returns-clause-outcome
returns-clause-outcome c = plain_word_of

pub returns-clause-say : goal.returns-clause-say
returns-clause-say c = plain_say

pub returns-clause-told : goal.returns-clause-told
returns-clause-told c = plain_all_waits

pub returns-clause-set : goal.returns-clause-set
returns-clause-set c = plain_set

pub returns-clause-name : goal.returns-clause-name
returns-clause-name c = plain_name

pub returns-clause-mark : goal.returns-clause-mark
returns-clause-mark c = plain_mark

pub returns-clause-shown : goal.returns-clause-shown
returns-clause-shown c = plain_shown

pub returns-clause-labelled : goal.returns-clause-labelled
returns-clause-labelled c = plain_labelled

pub returns-clause-box_title : goal.returns-clause-box_title
returns-clause-box_title c = plain_box

pub returns-clause-port_title : goal.returns-clause-port_title
returns-clause-port_title c = plain_port_title

pub returns-clause-port_text : goal.returns-clause-port_text
returns-clause-port_text c = plain_port_text

pub returns-clause-wire : goal.returns-clause-wire
returns-clause-wire c = plain_wire

pub returns-clause-values : goal.returns-clause-values
returns-clause-values c = plain_words

pub returns-clause-number : goal.returns-clause-number
returns-clause-number c = plain_number

pub returns-clause-wait : goal.returns-clause-wait
returns-clause-wait c = plain_wait
