-- That no call that stores tells a length, whatever it answers.
mod NoLength
